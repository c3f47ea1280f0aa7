use Rattle.std.proofs.Common.{◌≡◌, ℕ, zero, suc, ◌<◌, ◌≤◌, Bool, true, false, List, [], ◌∷◌, ◌++◌, Option, None, Some, All, get_or, set, length, refl, sym, ◌∙◌, ap, subst, arith}
use Rattle.std.proofs.lemmas.Bool.{false≢true, cond-true, cond-false}
use Rattle.std.proofs.lemmas.List.{length-replicate, length-set}
use Rattle.std.proofs.lemmas.List.Elements.{All-cons, All-head, All-nil, All-tail}
use Rattle.letters_and_lassos.specs.declared.cubes.Cube.{Cube}
use Rattle.ltl_formula.specs.declared.nodes.FormulaId.{FormulaId}
use Rattle.ltl_formula.specs.declared.nodes.Node.{Node}
use Rattle.ltl_formula.specs.declared.nodes.Node.TheVariants.{True, False, Signal, Not, Next, Finally, Globally, And, Or, Implies, Equiv, Until, Release, WeakUntil}
use Rattle.ltl_formula.specs.Nodes.{IsNodeList, PartsBelow, IsNodeIn, node_at}
use Rattle.obligation_sets.specs.declared.branches.Step.{Step}
use Rattle.obligation_sets.specs.declared.branches.Step.TheVariants.{Leaf, Dead, On, Split}
use Rattle.obligation_sets.specs.Branch.{Branch}
use Rattle.obligation_sets.specs.Cubes.{forbidding, wanting}
use Rattle.obligation_sets.specs.Ids.{has_id, with_id}
use Rattle.obligation_sets.specs.OpenWork.{open_work}
use Rattle.obligation_sets.specs.Steps.{HasPlaces, expanding, in_front, joining, leaving, opposing, postponing, settled, step, step_on, taking, undone}
use Rattle.obligation_sets.specs.Covers.{leaves_below, leaves_of, leaves_within, start_branch}

-- what comes of a step are branches over n formulas, with these done
pub record GoesOn (n : ℕ) (done : List Bool) (b : Branch) : Type 0 where
  pub places : HasPlaces n b
  pub same : b.done ≡ done

abbrev pub StepGoesOn : ℕ → List Bool → Step → Type 0
StepGoesOn n done (Leaf b) = HasPlaces n b
StepGoesOn n done Dead = Unit {0}
StepGoesOn n done (On b) = GoesOn n done b
StepGoesOn n done (Split b c) = GoesOn n done b × GoesOn n done c

one_more_front : (n : ℕ) (b : Branch) → HasPlaces n b → (f : FormulaId) → f.0 < n → GoesOn n b.done (in_front (f ∷ []) b)
one_more_front n b places f h = record { places = record { work = All-cons (λ g. g.0 < n) f b.work h places.work; done = places.done; next = places.next; postponed = places.postponed }; same = refl }

-- parts below a place are below a later one
pub PartsBelow-up : (m n : ℕ) → m ≤ n → (node : Node) → PartsBelow m node → PartsBelow n node
PartsBelow-up m n le True p = tt
PartsBelow-up m n le False p = tt
PartsBelow-up m n le (Signal k) p = tt
PartsBelow-up m n le (Not g) p = omega arith
PartsBelow-up m n le (Next g) p = omega arith
PartsBelow-up m n le (Finally g) p = omega arith
PartsBelow-up m n le (Globally g) p = omega arith
PartsBelow-up m n le (And g h) p = (omega arith, omega arith)
PartsBelow-up m n le (Or g h) p = (omega arith, omega arith)
PartsBelow-up m n le (Implies g h) p = (omega arith, omega arith)
PartsBelow-up m n le (Equiv g h) p = (omega arith, omega arith)
PartsBelow-up m n le (Until g h) p = (omega arith, omega arith)
PartsBelow-up m n le (Release g h) p = (omega arith, omega arith)
PartsBelow-up m n le (WeakUntil g h) p = (omega arith, omega arith)

module _ (n : ℕ) (b : Branch) (places : HasPlaces n b) where
  itself : GoesOn n b.done b
  itself = record { places = places; same = refl }

  two_front : (f g : FormulaId) → f.0 < n → g.0 < n → GoesOn n b.done (in_front (f ∷ g ∷ []) b)
  two_front f g h k = record {
    places = record {
      work = All-cons (λ g. g.0 < n) f (g ∷ b.work) h (All-cons (λ g. g.0 < n) g b.work k places.work);
      done = places.done;
      next = places.next;
      postponed = places.postponed;
    };
    same = refl;
  }

  leaving_places : (f : FormulaId) → HasPlaces n (leaving f b)
  leaving_places f = record { work = places.work; done = places.done; next = length-set b.next f.0 true ∙ places.next; postponed = places.postponed }

  postponing_places : (f : FormulaId) → HasPlaces n (postponing f b)
  postponing_places f = record {
    work = places.work;
    done = places.done;
    next = length-set b.next f.0 true ∙ places.next;
    postponed = length-set b.postponed f.0 true ∙ places.postponed;
  }

  joining_goes_on : (o : Option Cube) → StepGoesOn n b.done (joining b o)
  joining_goes_on None = tt
  joining_goes_on (Some cube) = record { places = record { work = places.work; done = places.done; next = places.next; postponed = places.postponed }; same = refl }

  opposing_goes_on : (node : Node) → StepGoesOn n b.done (opposing b node)
  opposing_goes_on (Signal k) = joining_goes_on (forbidding b.cube k)
  opposing_goes_on _ = tt

  expanding_goes_on : (ns : List Node) (f : FormulaId) (node : Node) → PartsBelow n node → StepGoesOn n b.done (expanding ns b f node)
  expanding_goes_on ns f True parts = itself
  expanding_goes_on ns f False parts = tt
  expanding_goes_on ns f (Signal k) parts = joining_goes_on (wanting b.cube k)
  expanding_goes_on ns f (Not g) parts = opposing_goes_on (node_at ns g.0)
  expanding_goes_on ns f (Next g) parts = record { places = leaving_places g; same = refl }
  expanding_goes_on ns f (Finally g) parts = tt
  expanding_goes_on ns f (Globally g) parts = tt
  expanding_goes_on ns f (And g h) parts = two_front g h parts.0 parts.1
  expanding_goes_on ns f (Or g h) parts = (one_more_front n b places g parts.0, one_more_front n b places h parts.1)
  expanding_goes_on ns f (Implies g h) parts = tt
  expanding_goes_on ns f (Equiv g h) parts = tt
  expanding_goes_on ns f (Until g h) parts = (one_more_front n b places h parts.1, one_more_front n (postponing f b) (postponing_places f) g parts.0)
  expanding_goes_on ns f (Release g h) parts = (two_front g h parts.0 parts.1, one_more_front n (leaving f b) (leaving_places f) h parts.1)
  expanding_goes_on ns f (WeakUntil g h) parts = tt

-- the first open formula isn't done, and what holds of the work list holds of it and of the rest
pub record IsFirstOpen (P : FormulaId → Type 0) (done : List Bool) (f : FormulaId) (rest : List FormulaId) : Type 0 where
  pub fresh : has_id done f ≡ false
  pub first : P f
  pub others : All P rest

first_open_at : (P : FormulaId → Type 0) (done : List Bool) (x : FormulaId) (xs : List FormulaId) (b : Bool) → has_id done x ≡ b → (f : FormulaId) (rest : List FormulaId) → open_work done (x ∷ xs) ≡ f ∷ rest → All P (x ∷ xs) → (open_work done xs ≡ f ∷ rest → All P xs → IsFirstOpen P done f rest) → IsFirstOpen P done f rest
first_open_at P done x xs true e f rest is all later = later (sym (cond-true (has_id done x) (open_work done xs) (x ∷ xs) e) ∙ is) (All-tail P x xs all)
first_open_at P done x xs false e f rest is all later =
    let same : x ∷ xs ≡ f ∷ rest = sym (cond-false (has_id done x) (open_work done xs) (x ∷ xs) e) ∙ is in
    let head : x ≡ f = cc in
    let tail : xs ≡ rest = cc in
    record {
      fresh = rw head at e;
      first = rw head at (All-head P x xs all);
      others = rw tail at (All-tail P x xs all);
    }

pub first_open : (P : FormulaId → Type 0) (done : List Bool) (work : List FormulaId) (f : FormulaId) (rest : List FormulaId) → open_work done work ≡ f ∷ rest → All P work → IsFirstOpen P done f rest
first_open P done [] f rest is all = let wrong : [] ≡ f ∷ rest = is in cc
first_open P done (x ∷ xs) f rest is all = first_open_at P done x xs (has_id done x) refl f rest is all (first_open P done xs f rest)

-- one more formula done leaves one less that isn't
pub undone-with_id : (done : List Bool) (k : ℕ) → k < length done → get_or done k false ≡ false → undone done ≡ suc (undone (set done k true))
undone-with_id [] k h e = absurd (omega arith)
undone-with_id (true ∷ done) zero h e = absurd (false≢true (sym e))
undone-with_id (false ∷ done) zero h e = refl
undone-with_id (true ∷ done) (suc k) h e = undone-with_id done k (omega arith) e
undone-with_id (false ∷ done) (suc k) h e = ap suc (undone-with_id done k (omega arith) e)

-- a step ends at a leaf, or takes a formula
abbrev pub Stepped : ℕ → Branch → Step → Type 0
Stepped n b (Leaf leaf) = HasPlaces n leaf
Stepped n b Dead = Unit {0}
Stepped n b (On c) = HasPlaces n c × (undone b.done ≡ suc (undone c.done))
Stepped n b (Split c d) = HasPlaces n c × (undone b.done ≡ suc (undone c.done)) × HasPlaces n d × (undone b.done ≡ suc (undone d.done))

stepped : (n : ℕ) (b : Branch) (done : List Bool) → undone b.done ≡ suc (undone done) → (s : Step) → StepGoesOn n done s → Stepped n b s
stepped n b done less (Leaf leaf) g = g
stepped n b done less Dead g = tt
stepped n b done less (On c) g = (g.places, less ∙ ap (λ d. suc (undone d)) (sym g.same))
stepped n b done less (Split c d) g = (g.0.places, less ∙ ap (λ d. suc (undone d)) (sym g.0.same), g.1.places, less ∙ ap (λ d. suc (undone d)) (sym g.1.same))

pub taking_places : (ns : List Node) (b : Branch) → HasPlaces (length ns) b → (f : FormulaId) (rest : List FormulaId) → open_work b.done b.work ≡ f ∷ rest → HasPlaces (length ns) (taking b f rest)
taking_places ns b places f rest is =
    let first : IsFirstOpen (λ g. g.0 < length ns) b.done f rest = first_open (λ g. g.0 < length ns) b.done b.work f rest is places.work in
    record { work = first.others; done = length-set b.done f.0 true ∙ places.done; next = places.next; postponed = places.postponed }

module _ (ns : List Node) (list : IsNodeList ns) (b : Branch) (places : HasPlaces (length ns) b) where
  step_on_stepped : (work : List FormulaId) → open_work b.done b.work ≡ work → Stepped (length ns) b (step_on ns b work)
  step_on_stepped [] is = record { work = All-nil (λ f. f.0 < length ns); done = places.done; next = places.next; postponed = places.postponed }
  step_on_stepped (f ∷ rest) is =
      let first : IsFirstOpen (λ g. g.0 < length ns) b.done f rest = first_open (λ g. g.0 < length ns) b.done b.work f rest is places.work in
      let stands : f.0 < length b.done = rw (places.done) (first.first) in
      let taken : HasPlaces (length ns) (taking b f rest) = taking_places ns b places f rest is in
      stepped (length ns) b (with_id b.done f) (undone-with_id b.done f.0 stands first.fresh) (expanding ns (taking b f rest) f (node_at ns f.0))
      (expanding_goes_on (length ns) (taking b f rest) taken ns f (node_at ns f.0) (PartsBelow-up f.0 (length ns) (omega (arith, first.first)) (node_at ns f.0) (list.parts_first f.0)))

  pub step_stepped : Stepped (length ns) b (step ns b)
  step_stepped = step_on_stepped (open_work b.done b.work) refl

leaves-fuel : (ns : List Node) (b c : Branch) → undone b.done ≡ suc (undone c.done) → leaves_within (undone b.done) ns c ≡ leaves_of ns c
leaves-fuel ns b c less = ap (λ n. leaves_within n ns c) less

leaves_below-of : (ns : List Node) (n : ℕ) (b : Branch) (s : Step) → Stepped n b s → leaves_below (leaves_within (undone b.done) ns) s ≡ leaves_below (leaves_of ns) s
leaves_below-of ns n b (Leaf leaf) h = refl
leaves_below-of ns n b Dead h = refl
leaves_below-of ns n b (On c) h = leaves-fuel ns b c h.1
leaves_below-of ns n b (Split c d) h = λ i. leaves-fuel ns b c h.1 i ++ leaves-fuel ns b d h.3 i

-- the leaves of a branch are those of what comes of its step
pub leaves_of-step : (ns : List Node) → IsNodeList ns → (b : Branch) → HasPlaces (length ns) b → leaves_of ns b ≡ leaves_below (leaves_of ns) (step ns b)
leaves_of-step ns list b places = leaves_below-of ns (length ns) b (step ns b) (step_stepped ns list b places)

-- the branch that begins with a set
pub start_places : (ns : List Node) (set : List FormulaId) → All (IsNodeIn ns) set → HasPlaces (length ns) (start_branch ns set)
start_places ns set stand = record { work = stand; done = length-replicate (length ns) false; next = length-replicate (length ns) false; postponed = length-replicate (length ns) false }

-- the work list from its first open formula on
open_work-more : (done : List Bool) (x : FormulaId) (xs : List FormulaId) (b : Bool) → has_id done x ≡ b → open_work done (open_work done xs) ≡ open_work done xs → open_work done (open_work done (x ∷ xs)) ≡ open_work done (x ∷ xs)
open_work-more done x xs true e same = ap (open_work done) (cond-true (has_id done x) (open_work done xs) (x ∷ xs) e) ∙ same ∙ sym (cond-true (has_id done x) (open_work done xs) (x ∷ xs) e)
open_work-more done x xs false e same = ap (open_work done) (cond-false (has_id done x) (open_work done xs) (x ∷ xs) e)

open_work-twice : (done : List Bool) (work : List FormulaId) → open_work done (open_work done work) ≡ open_work done work
open_work-twice done [] = refl
open_work-twice done (x ∷ xs) = open_work-more done x xs (has_id done x) refl (open_work-twice done xs)

all_at : (P : FormulaId → Type 0) (done : List Bool) (x : FormulaId) (xs : List FormulaId) (b : Bool) → has_id done x ≡ b → All P (x ∷ xs) → All P (open_work done xs) → All P (open_work done (x ∷ xs))
all_at P done x xs true e all rest = subst (All P) (sym (cond-true (has_id done x) (open_work done xs) (x ∷ xs) e)) rest
all_at P done x xs false e all rest = subst (All P) (sym (cond-false (has_id done x) (open_work done xs) (x ∷ xs) e)) all

open_work-all : (P : FormulaId → Type 0) (done : List Bool) (work : List FormulaId) → All P work → All P (open_work done work)
open_work-all P done [] all = all
open_work-all P done (x ∷ xs) all = all_at P done x xs (has_id done x) refl all (open_work-all P done xs (All-tail P x xs all))

pub settled_places : (n : ℕ) (b : Branch) → HasPlaces n b → HasPlaces n (settled b)
settled_places n b places = record { work = open_work-all (λ f. f.0 < n) b.done b.work places.work; done = places.done; next = places.next; postponed = places.postponed }

settled_step : (ns : List Node) (b : Branch) (work : List FormulaId) → step_on ns (settled b) work ≡ step_on ns b work
settled_step ns b [] = refl
settled_step ns b (f ∷ rest) = refl

-- a branch and the settled one go the same way
pub leaves_of-settled : (ns : List Node) (b : Branch) → leaves_of ns (settled b) ≡ leaves_of ns b
leaves_of-settled ns b =
    ap (leaves_below (leaves_within (undone b.done) ns)) (ap (step_on ns (settled b)) (open_work-twice b.done b.work) ∙ settled_step ns b (open_work b.done b.work))
