use Rattle.std.proofs.Common.{◌≡◌, ℕ, ◌+◌, ◌-◌, ◌<◌, ◌≤◌, List, [], ◌∷◌, ◌++◌, Option, Some, None, refl, sym, ap, subst, ◌∙◌, arith, inl, inr, ◌⊎◌}
use Rattle.std.proofs.lemmas.Bool.{cond_both, ltb-true, ltb-false}
use Rattle.std.specs.Bool.{IsTrue}
use Rattle.std.specs.Option.{option_map_or}
use Rattle.std.specs.Prelude.{nat_lt}
use Rattle.letters_and_lassos.specs.declared.kinds.Side.{Side}
use Rattle.letters_and_lassos.specs.declared.kinds.Side.TheVariants.{System, Environment}
use Rattle.machine_model.specs.Machine.{MachineModel, size_of}
use Rattle.size_board.specs.declared.events.SizeState.{SizeState}
use Rattle.size_board.specs.declared.events.Event.{Event}
use Rattle.size_board.specs.declared.events.Event.TheVariants.{Claimed, Left, Found, Refuted, Full}
use Rattle.size_board.specs.Names.{Named, SideHas, sizes_of, sought_by}
use Rattle.size_board.specs.States.{after_event, replay}
use Rattle.size_board.specs.Board.{BoardModel, IsKeptBy, IsSoundBoard, high_of, machine_of, smaller, state_of, with_event, with_machine}
use Rattle.size_board.specs.Kept.{Allows}
use Rattle.size_board.proofs.Replays.{replay-push}
use Rattle.size_board.proofs.Marks.{Refutes, Finds, IsOf, refuted_by, found_by, found_stays, found_here}

-- each marked size of a side is an allowed one
abbrev pub RefutedAllowed : Named → BoardModel → Type 0
RefutedAllowed names b = (side : Side) (n : ℕ) → IsTrue (state_of b side n).is_refuted → n ≤ sizes_of names side

-- an event that refutes an allowed size without an accepted machine
refuted_now : (names : Named) (e : Event) (side : Side) (n : ℕ) → Allows names e → Refutes e → IsOf e side n
    → (n ≤ sizes_of names side) × ((m : MachineModel) → SideHas (sought_by names side) n m → ⊥)
refuted_now names (Claimed worker at) side n allows refutes of = absurd refutes
refuted_now names (Left at) side n allows refutes of = absurd refutes
refuted_now names (Found at) side n allows refutes of = absurd refutes
refuted_now names (Refuted at) side n allows refutes of =
    subst (λ (t : Side). (n ≤ sizes_of names t) × ((m : MachineModel) → SideHas (sought_by names t) n m → ⊥)) of.side_is
    (subst (λ (k : ℕ). (k ≤ sizes_of names at.side) × ((m : MachineModel) → SideHas (sought_by names at.side) k m → ⊥)) of.size_is allows)
refuted_now names (Full at) side n allows refutes of = absurd refutes

-- none of these events finds
finds_not : (names : Named) (e : Event) → Allows names e → Finds e → ⊥
finds_not names (Claimed worker at) allows finds = finds
finds_not names (Left at) allows finds = finds
finds_not names (Found at) allows finds = allows
finds_not names (Refuted at) allows finds = finds
finds_not names (Full at) allows finds = finds

machine_of-told : (b : BoardModel) (e : Event) (side : Side) → machine_of (with_event b e) side ≡ machine_of b side
machine_of-told b e System = refl
machine_of-told b e Environment = refl

module _ (names : Named) (b : BoardModel) (e : Event) where
  after_told : (side : Side) (n : ℕ) → state_of (with_event b e) side n ≡ after_event side n (state_of b side n) e
  after_told side n = replay-push b.journal e side n

  refuted_before : (side : Side) (n : ℕ) → IsTrue (state_of (with_event b e) side n).is_refuted → IsTrue (state_of b side n).is_refuted ⊎ (Refutes e × IsOf e side n)
  refuted_before side n is = refuted_by side n (state_of b side n) e (sym (ap (λ (s : SizeState). s.is_refuted) (after_told side n)) ∙ is)

  found_before : (side : Side) (n : ℕ) → IsTrue (state_of (with_event b e) side n).is_found → IsTrue (state_of b side n).is_found ⊎ (Finds e × IsOf e side n)
  found_before side n is = found_by side n (state_of b side n) e (sym (ap (λ (s : SizeState). s.is_found) (after_told side n)) ∙ is)

  found_after : (side : Side) (n : ℕ) → IsTrue (state_of b side n).is_found → IsTrue (state_of (with_event b e) side n).is_found
  found_after side n is = ap (λ (s : SizeState). s.is_found) (after_told side n) ∙ found_stays side n (state_of b side n) e is

  -- the board stays sound by an event that its machines allow
  pub IsSound-told : IsSoundBoard names b → Allows names e → IsSoundBoard names (with_event b e)
  IsSound-told sound allows = record {
    refuted = λ side n is m has. elim (refuted_before side n is) [
      | inl old ↦ sound.refuted side n old m has
      | inr new ↦ (refuted_now names e side n allows new.0 new.1).1 m has
    ];
    kept = λ side m is.
        let old : IsKeptBy names b side m = sound.kept side m (sym (machine_of-told b e side) ∙ is) in
        record { accepted = old.accepted; allowed = old.allowed; marked = found_after side (size_of m) old.marked };
    smallest = λ side n is. elim (found_before side n is) [
      | inl old ↦
          let same : high_of names (with_event b e) side ≡ high_of names b side = ap (λ o. option_map_or size_of o (sizes_of names side + 1)) (machine_of-told b e side) in
          rw same (sound.smallest side n old)
      | inr new ↦ absurd (finds_not names e allows new.0)
    ];
  }

  pub RefutedAllowed-told : RefutedAllowed names b → Allows names e → RefutedAllowed names (with_event b e)
  RefutedAllowed-told old allows side n is = elim (refuted_before side n is) [
    | inl before ↦ old side n before
    | inr new ↦ (refuted_now names e side n allows new.0 new.1).0
  ]

-- of a kept machine and another one the smaller is one of the two
smaller_cases : (o : Option MachineModel) (m : MachineModel) → (smaller o m ≡ m) ⊎ (o ≡ Some (smaller o m))
smaller_cases None m = inl refl
smaller_cases (Some kept) m =
    cond_both (nat_lt (size_of m) (size_of kept)) m kept (λ x. (x ≡ m) ⊎ (Some kept ≡ Some x)) (λ less. inl refl) (λ not_less. inr refl)

-- and none is smaller
smaller_new : (o : Option MachineModel) (m : MachineModel) → size_of (smaller o m) ≤ size_of m
smaller_new None m = omega arith
smaller_new (Some kept) m =
    cond_both (nat_lt (size_of m) (size_of kept)) m kept (λ x. size_of x ≤ size_of m) (λ less. omega arith) (λ not_less. ltb-false (size_of m) (size_of kept) not_less)

smaller_old : (o : Option MachineModel) (m : MachineModel) (sizes : ℕ) → size_of m ≤ sizes → size_of (smaller o m) ≤ option_map_or size_of o (sizes + 1)
smaller_old None m sizes h = omega (arith, h)
smaller_old (Some kept) m sizes h =
    cond_both (nat_lt (size_of m) (size_of kept)) m kept (λ x. size_of x ≤ size_of kept)
    (λ less. let below : size_of m < size_of kept = ltb-true (size_of m) (size_of kept) less in omega (arith, below)) (λ not_less. omega arith)

-- what finding a machine changes: the kept machine of its own side alone
data Keeps (b : BoardModel) (side : Side) (m : MachineModel) : Side → Type 0 where
  own : machine_of (with_machine b side m) side ≡ Some (smaller (machine_of b side) m) → Keeps b side m side
  others : (t : Side) → (side ≡ t → ⊥) → machine_of (with_machine b side m) t ≡ machine_of b t → Keeps b side m t

keeps : (b : BoardModel) (side : Side) (m : MachineModel) (t : Side) → Keeps b side m t
keeps b System m System = own refl
keeps b System m Environment = others Environment (λ e. cc) refl
keeps b Environment m System = others System (λ e. cc) refl
keeps b Environment m Environment = own refl

abbrev found_event : Side → MachineModel → Event
found_event side m = Found (record { side = side; size = size_of m })

journal-found : (b : BoardModel) (side : Side) (m : MachineModel) → (with_machine b side m).journal ≡ b.journal ++ found_event side m ∷ []
journal-found b System m = refl
journal-found b Environment m = refl

module _ (names : Named) (b : BoardModel) (side : Side) (m : MachineModel) where
  state-found : (t : Side) (n : ℕ) → state_of (with_machine b side m) t n ≡ state_of (with_event b (found_event side m)) t n
  state-found t n = ap (λ j. replay j t n) (journal-found b side m)

  refuted_old : (t : Side) (n : ℕ) → IsTrue (state_of (with_machine b side m) t n).is_refuted → IsTrue (state_of b t n).is_refuted
  refuted_old t n is =
      elim (refuted_before names b (found_event side m) t n (sym (ap (λ (s : SizeState). s.is_refuted) (state-found t n)) ∙ is)) [
        | inl old ↦ old
        | inr new ↦ absurd new.0
      ]

  still_found : (t : Side) (n : ℕ) → IsTrue (state_of b t n).is_found → IsTrue (state_of (with_machine b side m) t n).is_found
  still_found t n is = ap (λ (s : SizeState). s.is_found) (state-found t n) ∙ found_after names b (found_event side m) t n is

  now_found : IsTrue (state_of (with_machine b side m) side (size_of m)).is_found
  now_found =
      ap (λ (s : SizeState). s.is_found) (state-found side (size_of m)) ∙ ap (λ (s : SizeState). s.is_found) (after_told names b (found_event side m) side (size_of m))
      ∙ found_here side (size_of m) (state_of b side (size_of m))

  module _ (sound : IsSoundBoard names b) (accepted : SideHas (sought_by names side) (size_of m) m) (allowed : size_of m ≤ sizes_of names side) where
    kept_old : (t : Side) (k : MachineModel) → machine_of b t ≡ Some k → IsKeptBy names (with_machine b side m) t k
    kept_old t k is =
        let old : IsKeptBy names b t k = sound.kept t k is in
        record { accepted = old.accepted; allowed = old.allowed; marked = still_found t (size_of k) old.marked }

    kept_own : (k : MachineModel) → smaller (machine_of b side) m ≡ k → IsKeptBy names (with_machine b side m) side k
    kept_own k is = elim (smaller_cases (machine_of b side) m) [
      | inl new ↦ subst (λ (x : MachineModel). IsKeptBy names (with_machine b side m) side x) (sym new ∙ is) (record { accepted = accepted; allowed = allowed; marked = now_found })
      | inr old ↦ kept_old side k (old ∙ ap (λ (x : MachineModel). Some x) is)
    ]

    kept_found : (t : Side) → Keeps b side m t → (k : MachineModel) → machine_of (with_machine b side m) t ≡ Some k → IsKeptBy names (with_machine b side m) t k
    kept_found t (own e) k is = kept_own k (let same : Some (smaller (machine_of b side) m) ≡ Some k = sym e ∙ is in cc)
    kept_found t (others other ne e) k is = kept_old t k (sym e ∙ is)

    high_found : (t : Side) → Keeps b side m t → high_of names (with_machine b side m) t ≤ high_of names b t
    high_found t (own e) = rw e (smaller_old (machine_of b side) m (sizes_of names side) allowed)
    high_found t (others other ne e) = rw e (omega arith)

    high_own : high_of names (with_machine b side m) side ≤ size_of m
    high_own = elim (keeps b side m side) as (λ t k. side ≡ t → high_of names (with_machine b side m) t ≤ size_of m) [
      | own e ↦ λ same. rw e (smaller_new (machine_of b side) m)
      | others t ne e ↦ λ same. absurd (ne same)
    ] refl

    pub IsSound-found : IsSoundBoard names (with_machine b side m)
    IsSound-found = record {
      refuted = λ t n is k has. sound.refuted t n (refuted_old t n is) k has;
      kept = λ t k is. kept_found t (keeps b side m t) k is;
      smallest = λ t n is. elim (found_before names b (found_event side m) t n (sym (ap (λ (s : SizeState). s.is_found) (state-found t n)) ∙ is)) [
        | inl old ↦ let low : high_of names b t ≤ n = sound.smallest t n old in let less : high_of names (with_machine b side m) t ≤ high_of names b t = high_found t (keeps b side m t) in omega (arith, low, less)
        | inr new ↦
            subst (λ (x : Side). high_of names (with_machine b side m) x ≤ n) new.1.side_is
            (subst (λ (x : ℕ). high_of names (with_machine b side m) side ≤ x) new.1.size_is high_own)
      ];
    }

  pub RefutedAllowed-found : RefutedAllowed names b → RefutedAllowed names (with_machine b side m)
  RefutedAllowed-found old t n is = old t n (refuted_old t n is)

-- what a board's machines and marks keep
pub record Holds (names : Named) (b : BoardModel) : Type 0 where
  pub sound : IsSoundBoard names b
  pub refuted_allowed : RefutedAllowed names b

-- the same of the values that fields have after an event
pub holds_told : (names : Named) (b : BoardModel) (e : Event) (journal : List Event) → journal ≡ b.journal ++ e ∷ [] → Allows names e
    → IsSoundBoard names b → RefutedAllowed names b → Holds names (record { journal = journal; system = b.system; environment = b.environment })
holds_told names b e journal is allows sound allowed =
    subst (λ (j : List Event). Holds names (record { journal = j; system = b.system; environment = b.environment })) (sym is)
    (record { sound = IsSound-told names b e sound allows; refuted_allowed = RefutedAllowed-told names b e allowed allows })

-- and after a machine is found
pub holds_found : (names : Named) (b after : BoardModel) (side : Side) (m : MachineModel) → after ≡ with_machine b side m
    → SideHas (sought_by names side) (size_of m) m → size_of m ≤ sizes_of names side → IsSoundBoard names b → RefutedAllowed names b → Holds names after
holds_found names b after side m is accepted allowed sound old =
    subst (λ x. Holds names x) (sym is) (record { sound = IsSound-found names b side m sound accepted allowed; refuted_allowed = RefutedAllowed-found names b side m old })

pub found_system : (b : BoardModel) (side : Side) (m : MachineModel) (n : ℕ) (journal : List Event) (kept : Option MachineModel) → side ≡ System → n ≡ size_of m
    → journal ≡ b.journal ++ Found (record { side = side; size = n }) ∷ [] → kept ≡ Some (smaller b.system m)
    → record { journal = journal; system = kept; environment = b.environment } ≡ with_machine b side m
found_system b side m n journal kept here size told is =
    let at : Found (record { side = side; size = n }) ≡ found_event System m = λ i. Found (record { side = here i; size = size i }) in
    let j : journal ≡ b.journal ++ found_event System m ∷ [] = told ∙ ap (λ (e : Event). b.journal ++ e ∷ []) at in
    let whole : (let x : BoardModel = record { journal = journal; system = kept; environment = b.environment } in x) ≡ with_machine b System m = λ i. record { journal = j i; system = is i; environment = b.environment } in
    whole ∙ ap (λ (s : Side). with_machine b s m) (sym here)

pub found_environment : (b : BoardModel) (side : Side) (m : MachineModel) (n : ℕ) (journal : List Event) (kept : Option MachineModel) → side ≡ Environment → n ≡ size_of m
    → journal ≡ b.journal ++ Found (record { side = side; size = n }) ∷ [] → kept ≡ Some (smaller b.environment m)
    → record { journal = journal; system = b.system; environment = kept } ≡ with_machine b side m
found_environment b side m n journal kept here size told is =
    let at : Found (record { side = side; size = n }) ≡ found_event Environment m = λ i. Found (record { side = here i; size = size i }) in
    let j : journal ≡ b.journal ++ found_event Environment m ∷ [] = told ∙ ap (λ (e : Event). b.journal ++ e ∷ []) at in
    let whole : (let x : BoardModel = record { journal = journal; system = b.system; environment = kept } in x) ≡ with_machine b Environment m = λ i. record { journal = j i; system = b.system; environment = is i } in
    whole ∙ ap (λ (s : Side). with_machine b s m) (sym here)
