use Rattle.std.proofs.Common.{◌≡◌, ℕ, zero, suc, ◌<◌, ◌⊎◌, inl, inr, Bool, true, false, ◌&&◌, ◌||◌, List, [], ◌∷◌, Option, None, Some, All, length, refl, sym, ◌∙◌, arith}
use Rattle.std.specs.Prelude.{Contains}
use Rattle.std.proofs.lemmas.Bool.{and_parts, both_ways, false≢true, not-true, or_cases}
use Rattle.std.proofs.lemmas.List.Elements.{All-cons, All-nil, Contains-append_left, Contains-append_right}
use Rattle.std_lemmas.proofs.Lists.{Contains-head}
use Rattle.letters_and_lassos.specs.Cube.{Fits}
use Rattle.letters_and_lassos.specs.Signals.{has}
use Rattle.letters_and_lassos.specs.declared.cubes.Cube.{Cube}
use Rattle.letters_and_lassos.specs.declared.letters.Letter.{Letter}
use Rattle.ltl_formula.specs.declared.nodes.FormulaId.{FormulaId}
use Rattle.ltl_formula.specs.declared.nodes.Node.{Node}
use Rattle.ltl_formula.specs.declared.nodes.Node.TheVariants.{True, False, Signal, Not, Next, Finally, Globally, And, Or, Implies, Equiv, Until, Release, WeakUntil}
use Rattle.ltl_formula.specs.Nodes.{IsNodeList, PartsBelow, node_at, tree_at}
use Rattle.obligation_sets.specs.declared.branches.Step.{Step}
use Rattle.obligation_sets.specs.declared.branches.Step.TheVariants.{Leaf, Dead, On, Split}
use Rattle.obligation_sets.specs.Apart.{has-added}
use Rattle.obligation_sets.specs.Branch.{Branch}
use Rattle.obligation_sets.specs.Covers.{leaves_below, leaves_within}
use Rattle.obligation_sets.specs.Cubes.{forbidding, forbidding_at, wanting, wanting_at}
use Rattle.obligation_sets.specs.Ids.{has_id}
use Rattle.ltl_formula.specs.NormalForm.{IsNormal}
use Rattle.obligation_sets.specs.OpenWork.{open_work}
use Rattle.obligation_sets.specs.Steps.{HasPlaces, expanding, in_front, joining, leaving, opposing, postponing, step, step_on, taking, undone}
use Rattle.obligation_sets.proofs.Flags.{with_id-cases}
use Rattle.obligation_sets.proofs.OneStep.{IsOneStep, NodeIsNormal, NodeIsSignal, node_normal, node_signal, value}
use Rattle.obligation_sets.proofs.Walks.{IsFirstOpen, PartsBelow-up, Stepped, first_open, step_stepped}

-- the node is an until whose second part is false
abbrev pub second_false : (FormulaId → Bool) → Node → Type 0
second_false now (Until g h) = now h ≡ false
second_false now _ = ⊥

-- a cube that joins stays one that the letter fits
abbrev pub CubeFits : Letter → Option Cube → Type 0
CubeFits letter None = ⊥
CubeFits letter (Some cube) = Fits cube letter

wanting_at_fits : (letter : Letter) (cube : Cube) (k : ℕ) (b : Bool) (e : has cube.not k ≡ b) → Fits cube letter → has letter.0 k ≡ true → CubeFits letter (wanting_at cube k b e)
wanting_at_fits letter cube k true e fits h = fits.none_of k e h
wanting_at_fits letter cube k false e fits h = record {
  must = λ j added. elim (has-added cube.must k j added) [ inl before ↦ fits.must j before | inr same ↦ rw same h ];
  none_of = fits.none_of;
}

forbidding_at_fits : (letter : Letter) (cube : Cube) (k : ℕ) (b : Bool) (e : has cube.must k ≡ b) → Fits cube letter → has letter.0 k ≡ false → CubeFits letter (forbidding_at cube k b e)
forbidding_at_fits letter cube k true e fits h = both_ways (has letter.0 k) h (fits.must k e)
forbidding_at_fits letter cube k false e fits h = record {
  must = fits.must;
  none_of = λ j added there. elim (has-added cube.not k j added) [ inl before ↦ fits.none_of j before there | inr same ↦ both_ways (has letter.0 k) h (rw same at there) ];
}

module _ (ns : List Node) (letter : Letter) (now later : FormulaId → Bool) where
  -- a branch is met: its work list holds now, the letter fits, what it leaves holds next, and it puts off only untils
  -- whose second part is false
  pub record IsMet (b : Branch) : Type 0 where
    pub work : All (λ f. now f ≡ true) b.work
    pub normal : All (λ f. IsNormal (tree_at ns f)) b.work
    pub fits : Fits b.cube letter
    pub next : (f : FormulaId) → has_id b.next f ≡ true → later f ≡ true
    pub postponed : (f : FormulaId) → has_id b.postponed f ≡ true → second_false now (node_at ns f.0)
    pub put_off : (f : FormulaId) → has_id b.postponed f ≡ true → later f ≡ true

  -- something that comes of a step is met
  abbrev pub StepIsMet : Step → Type 0
  StepIsMet (Leaf b) = IsMet b
  StepIsMet Dead = ⊥
  StepIsMet (On b) = IsMet b
  StepIsMet (Split b c) = IsMet b ⊎ IsMet c

  -- a leaf that is met
  pub record Reached (leaves : List (Option Branch)) : Type 0 where
    pub leaf : Branch
    pub there : Contains leaves (Some leaf)
    pub met : IsMet leaf
    pub places : HasPlaces (length ns) leaf

  met_front : (b : Branch) → IsMet b → (g : FormulaId) → now g ≡ true → IsNormal (tree_at ns g) → IsMet (in_front (g ∷ []) b)
  met_front b met g h n = record {
    work = All-cons (λ f. now f ≡ true) g b.work h met.work;
    normal = All-cons (λ f. IsNormal (tree_at ns f)) g b.work n met.normal;
    fits = met.fits;
    next = met.next;
    postponed = met.postponed;
    put_off = met.put_off;
  }

  met_leaving : (b : Branch) → IsMet b → (g : FormulaId) → later g ≡ true → IsMet (leaving g b)
  met_leaving b met g h = record {
    work = met.work;
    normal = met.normal;
    fits = met.fits;
    next = λ f there. elim (with_id-cases b.next g f there) [ inl same ↦ rw same h | inr before ↦ met.next f before ];
    postponed = met.postponed;
    put_off = met.put_off;
  }

  met_postponing : (b : Branch) → IsMet b → (g : FormulaId) → later g ≡ true → second_false now (node_at ns g.0) → IsMet (postponing g b)
  met_postponing b met g h fails = record {
    work = met.work;
    normal = met.normal;
    fits = met.fits;
    next = λ f there. elim (with_id-cases b.next g f there) [ inl same ↦ rw same h | inr before ↦ met.next f before ];
    postponed = λ f there. elim (with_id-cases b.postponed g f there) [ inl same ↦ rw same fails | inr before ↦ met.postponed f before ];
    put_off = λ f there. elim (with_id-cases b.postponed g f there) [ inl same ↦ rw same h | inr before ↦ met.put_off f before ];
  }

  met_joining : (b : Branch) → IsMet b → (o : Option Cube) → CubeFits letter o → StepIsMet (joining b o)
  met_joining b met None h = h
  met_joining b met (Some cube) h = record { work = met.work; normal = met.normal; fits = h; next = met.next; postponed = met.postponed; put_off = met.put_off }

  met_opposing : (b : Branch) → IsMet b → (g : FormulaId) (node : Node) → NodeIsSignal node → value letter now later g node ≡ false → StepIsMet (opposing b node)
  met_opposing b met g (Signal k) s v = met_joining b met (forbidding b.cube k) (forbidding_at_fits letter b.cube k (has b.cube.must k) refl met.fits v)
  met_opposing b met g True s v = s
  met_opposing b met g False s v = s
  met_opposing b met g (Not x) s v = s
  met_opposing b met g (Next x) s v = s
  met_opposing b met g (Finally x) s v = s
  met_opposing b met g (Globally x) s v = s
  met_opposing b met g (And x y) s v = s
  met_opposing b met g (Or x y) s v = s
  met_opposing b met g (Implies x y) s v = s
  met_opposing b met g (Equiv x y) s v = s
  met_opposing b met g (Until x y) s v = s
  met_opposing b met g (Release x y) s v = s
  met_opposing b met g (WeakUntil x y) s v = s

  module _ (list : IsNodeList ns) (one : IsOneStep ns letter now later) where
    met_until : (b : Branch) → IsMet b → (f g h : FormulaId) → node_at ns f.0 ≡ Until g h → IsNormal (tree_at ns g) → IsNormal (tree_at ns h) → (now h || (now g && later f)) ≡ true → (t : Bool) → now h ≡ t → IsMet (in_front (h ∷ []) b) ⊎ IsMet (in_front (g ∷ []) (postponing f b))
    met_until b met f g h is ng nh v true e = inl (met_front b met h e nh)
    met_until b met f g h is ng nh v false e =
        elim (or_cases (now h) (now g && later f) v) [
          | inl holds ↦ absurd (both_ways (now h) e holds)
          | inr both ↦ (let parts : (now g ≡ true) × (later f ≡ true) = and_parts (now g) (later f) both in inr (met_front (postponing f b) (met_postponing b met f parts.1 (rw is e)) g parts.0 ng))
        ]

    met_expanding : (b : Branch) → IsMet b → (f : FormulaId) (node : Node) → node_at ns f.0 ≡ node → PartsBelow (length ns) node → NodeIsNormal ns node → value letter now later f node ≡ true → StepIsMet (expanding ns b f node)
    met_expanding b met f True is parts n v = met
    met_expanding b met f False is parts n v = false≢true v
    met_expanding b met f (Signal k) is parts n v = met_joining b met (wanting b.cube k) (wanting_at_fits letter b.cube k (has b.cube.not k) refl met.fits v)
    met_expanding b met f (Not g) is parts n v = met_opposing b met g (node_at ns g.0) (node_signal ns list g parts n) (sym (one.means g parts) ∙ not-true (now g) v)
    met_expanding b met f (Next g) is parts n v = met_leaving b met g v
    met_expanding b met f (Finally g) is parts n v = n
    met_expanding b met f (Globally g) is parts n v = n
    met_expanding b met f (And g h) is parts n v =
        let both : (now g ≡ true) × (now h ≡ true) = and_parts (now g) (now h) v in
        met_front (in_front (h ∷ []) b) (met_front b met h both.1 n.1) g both.0 n.0
    met_expanding b met f (Or g h) is parts n v = elim (or_cases (now g) (now h) v) [ inl holds ↦ inl (met_front b met g holds n.0) | inr holds ↦ inr (met_front b met h holds n.1) ]
    met_expanding b met f (Implies g h) is parts n v = n
    met_expanding b met f (Equiv g h) is parts n v = n
    met_expanding b met f (Until g h) is parts n v = met_until b met f g h is n.0 n.1 v (now h) refl
    met_expanding b met f (Release g h) is parts n v =
        let both : (now h ≡ true) × ((now g || later f) ≡ true) = and_parts (now h) (now g || later f) v in
        elim (or_cases (now g) (later f) both.1) [
          | inl holds ↦ inl (met_front (in_front (h ∷ []) b) (met_front b met h both.0 n.1) g holds n.0)
          | inr holds ↦ inr (met_front (leaving f b) (met_leaving b met f holds) h both.0 n.1)
        ]
    met_expanding b met f (WeakUntil g h) is parts n v = n

    met_step_on : (b : Branch) → HasPlaces (length ns) b → IsMet b → (work : List FormulaId) → open_work b.done b.work ≡ work → StepIsMet (step_on ns b work)
    met_step_on b places met [] is = record {
      work = All-nil (λ f. now f ≡ true);
      normal = All-nil (λ f. IsNormal (tree_at ns f));
      fits = met.fits;
      next = met.next;
      postponed = met.postponed;
      put_off = met.put_off;
    }
    met_step_on b places met (f ∷ rest) is =
        let truths : IsFirstOpen (λ g. now g ≡ true) b.done f rest = first_open (λ g. now g ≡ true) b.done b.work f rest is met.work in
        let normals : IsFirstOpen (λ g. IsNormal (tree_at ns g)) b.done f rest = first_open (λ g. IsNormal (tree_at ns g)) b.done b.work f rest is met.normal in
        let standing : IsFirstOpen (λ g. g.0 < length ns) b.done f rest = first_open (λ g. g.0 < length ns) b.done b.work f rest is places.work in
        let taken : IsMet (taking b f rest) = record { work = truths.others; normal = normals.others; fits = met.fits; next = met.next; postponed = met.postponed; put_off = met.put_off } in
        met_expanding (taking b f rest) taken f (node_at ns f.0) refl (PartsBelow-up f.0 (length ns) (omega (arith, standing.first)) (node_at ns f.0) (list.parts_first f.0))
        (node_normal ns list f standing.first normals.first) (sym (one.means f standing.first) ∙ truths.first)

    reached_below : (n : ℕ) → ((c : Branch) → HasPlaces (length ns) c → undone c.done < n → IsMet c → Reached (leaves_within n ns c)) → (b : Branch) → undone b.done < suc n → (s : Step) → Stepped (length ns) b s → StepIsMet s → Reached (leaves_below (leaves_within n ns) s)
    reached_below n below b few (Leaf leaf) goes met = record { leaf = leaf; there = Contains-head (Some leaf) []; met = met; places = goes }
    reached_below n below b few Dead goes met = absurd met
    reached_below n below b few (On c) goes met = below c goes.0 (let e : undone b.done ≡ suc (undone c.done) = goes.1 in omega arith) met
    reached_below n below b few (Split c d) goes (inl met) =
        let r : Reached (leaves_within n ns c) = below c goes.0 (let e : undone b.done ≡ suc (undone c.done) = goes.1 in omega arith) met in
        record { leaf = r.leaf; there = Contains-append_left (leaves_within n ns c) (leaves_within n ns d) (Some r.leaf) r.there; met = r.met; places = r.places }
    reached_below n below b few (Split c d) goes (inr met) =
        let r : Reached (leaves_within n ns d) = below d goes.2 (let e : undone b.done ≡ suc (undone d.done) = goes.3 in omega arith) met in
        record { leaf = r.leaf; there = Contains-append_right (leaves_within n ns c) (leaves_within n ns d) (Some r.leaf) r.there; met = r.met; places = r.places }

    -- a branch that is met has a leaf that is met
    pub reached : (n : ℕ) (b : Branch) → HasPlaces (length ns) b → undone b.done < n → IsMet b → Reached (leaves_within n ns b)
    reached zero b places few met = absurd (omega arith)
    reached (suc n) b places few met = reached_below n (reached n) b few (step ns b) (step_stepped ns list b places) (met_step_on b places met (open_work b.done b.work) refl)
