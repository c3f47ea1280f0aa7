-- Two answers to one text tell the same number of states, and the same side.
use Rattle.std.proofs.Common.{◌≡◌, ◌⊎◌, inl, inr, ℕ, ◌*◌, ◌^◌, ◌<◌, true, false, true≢false, List, length, Option, Some, refl, sym, ap, subst, ◌∙◌, arith}
use Rattle.std.specs.Prelude.{unwrap_or}
use Rattle.std.proofs.lemmas.Bool.{cases_lt}
use Rattle.std.proofs.lemmas.List.{nil_from_length}
use Rattle.text_limits.specs.declared.TheConstants.{SMALL_LIMITS}
use Rattle.letters_and_lassos.specs.declared.kinds.Kind.{Kind}
use Rattle.synth_engine.specs.declared.settings.Settings.{Settings}
use Rattle.letters_and_lassos.specs.Word.{Word}
use Rattle.machine_model.specs.Machine.{MachineModel, IsMachine, size_of}
use Rattle.document_text.specs.Laws.{DocumentsAreDetermined}
use Rattle.document_text.specs.Parts.{Document}
use Rattle.document_text.specs.States.{States}
use Rattle.tlsf_expand.specs.Expansion.{expanded, expanded_as, kind_of}
use Rattle.tlsf_expand.specs.FlatText.{FlatText, flat_in}
use Rattle.tlsf_expand.specs.Meaning.{means}
use Rattle.tlsf_reader.specs.Reads.{TreesAreDetermined}
use Rattle.tlsf_syntax.specs.Text.{Text}
use Rattle.satisfaction.specs.Wanted.{Wanted}
use Rattle.satisfaction.specs.Satisfaction.{EachCanLose, NoneSatisfies}
use Rattle.satisfaction.specs.Laws.{DefeatingCannotLose}
use Rattle.synth_answer.specs.Answer.{Answers, SomeDefeats, SomeSatisfies, refused, realizable, unrealizable, bounded, no_size, no_entries}
use Rattle.text_ground.specs.Ground.{IsWantedBy}
use Rattle.synth_answer.specs.Numbers.{AskAlike, VerdictsAreDetermined, told_number}

-- == what a text wants is one thing ==

some_is : {A : Type 0} (a b : A) → Some a ≡ Some b → a ≡ b
some_is a b e = ap (λ (o : Option _). unwrap_or o a) e

module _ (trees : TreesAreDetermined) (text : List ℕ) (kind given : Option Kind) (alike : AskAlike text kind given)
    (x y : Wanted) (a : IsWantedBy text kind x) (b : IsWantedBy text given y) where
  same_flat : a.flat ≡ b.flat
  same_flat =
      let tree : a.is_flat.tree ≡ b.is_flat.tree = trees text a.is_flat.tree b.is_flat.tree a.is_flat.read b.is_flat.read in
      let taken : kind_of kind a.is_flat.tree ≡ kind_of given b.is_flat.tree = alike a.is_flat.tree a.is_flat.read ∙ ap (kind_of given) tree in
      let same : flat_in (expanded SMALL_LIMITS a.is_flat.tree kind) ≡ flat_in (expanded SMALL_LIMITS b.is_flat.tree given) = λ i. flat_in (expanded_as SMALL_LIMITS (taken i) (tree i)) in
      some_is a.flat b.flat (sym a.is_flat.expanded ∙ same ∙ b.is_flat.expanded)

  same_inputs : x.inputs ≡ y.inputs
  same_inputs = a.inputs ∙ ap (λ (f : FlatText). f.expanded.inputs) same_flat ∙ sym b.inputs

  same_outputs : x.outputs ≡ y.outputs
  same_outputs = a.outputs ∙ ap (λ (f : FlatText). f.expanded.outputs) same_flat ∙ sym b.outputs

  same_kind : x.kind ≡ y.kind
  same_kind = a.kind_is ∙ ap (λ (f : FlatText). f.expanded.kind) same_flat ∙ sym b.kind_is

  same_means : (w : Word) → x.means w ≡ y.means w
  same_means w = a.meaning w ∙ ap (λ (t : Text). means SMALL_LIMITS w t) (trees text a.tree b.tree a.read b.read) ∙ sym (b.meaning w)

  pub same_wanted : x ≡ y
  same_wanted = λ i. record { inputs = same_inputs i; outputs = same_outputs i; kind = same_kind i; means = λ w. same_means w i }

-- == machines have states ==

some_state : (m : MachineModel) → IsMachine m → 0 < size_of m
some_state m machine = elim (cases_lt 0 (size_of m)) [
  | inl some ↦ some
  | inr none ↦
      let zero_is : size_of m ≡ 0 = omega (arith, none) in
      let rows : length m.table ≡ 0 = machine.shape.whole ∙ ap (λ n. n * 2 ^ m.reads) zero_is ∙ (let e : 0 * 2 ^ m.reads ≡ 0 = omega arith in e) in
      absurd (machine.shape.some (nil_from_length m.table rows))
]

-- == one number ==

-- of two numbers neither is less
neither : (n m : ℕ) → (n < m → ⊥) → (m < n → ⊥) → n ≡ m
neither n m below above = elim (cases_lt n m) [
  | inl less ↦ absurd (below less)
  | inr ge ↦ elim (cases_lt m n) [
    | inl more ↦ absurd (above more)
    | inr le ↦ omega (arith, ge, le)
  ]
]

module _ (x : Wanted) (n m : ℕ) where
  -- where some machine of n states satisfies, and none of fewer than m, n isn't less
  pub satisfied_below : SomeSatisfies x n → ((k : ℕ) → 0 < k → k < m → NoneSatisfies x k) → n < m → ⊥
  satisfied_below some none less =
      let states : 0 < n = subst (λ k. 0 < k) some.size (some_state some.machine some.satisfies.system.machine) in
      none n states less some.machine some.size some.satisfies

  pub defeated_below : DefeatingCannotLose → SomeDefeats x n → ((k : ℕ) → 0 < k → k < m → EachCanLose x k) → n < m → ⊥
  defeated_below cannot some each less =
      let states : 0 < n = subst (λ k. 0 < k) some.size (some_state some.machine some.defeats.environment.machine) in
      cannot x some.machine some.defeats (each n states less some.machine some.size some.defeats.environment)

-- where some machine of the environment defeats every machine, none satisfies
no_rival : (x : Wanted) (n m : ℕ) → SomeSatisfies x n → SomeDefeats x m → ⊥
no_rival x n m real unreal =
    let play = unreal.defeats.plays real.machine real.satisfies.system in
    let kept : x.means play.0 ≡ true = real.satisfies.means play.0 play.1.of_system in
    let lost : x.means play.0 ≡ false = unreal.defeats.loses real.machine play.0 real.satisfies.system play.1 in
    true≢false (sym kept ∙ lost)

-- == answers ==

pub record RealAt (text : List ℕ) (kind : Option Kind) (bytes : List ℕ) : Type 0 where
  pub wanted : Wanted
  pub by : IsWantedBy text kind wanted
  pub n : ℕ
  pub some : SomeSatisfies wanted n
  pub none : (k : ℕ) → 0 < k → k < n → NoneSatisfies wanted k
  pub document : Document
  pub states : States bytes document
  pub told : told_number document.verdict ≡ n

pub record UnrealAt (text : List ℕ) (kind : Option Kind) (bytes : List ℕ) : Type 0 where
  pub wanted : Wanted
  pub by : IsWantedBy text kind wanted
  pub n : ℕ
  pub some : SomeDefeats wanted n
  pub each : (k : ℕ) → 0 < k → k < n → EachCanLose wanted k
  pub document : Document
  pub states : States bytes document
  pub told : told_number document.verdict ≡ n

not_so : {A : Type 0} (status n m : ℕ) → status ≡ n → status ≡ m → (n ≡ m → ⊥) → A
not_so status n m is other differ = absurd (differ (sym is ∙ other))

pub real_at : {text : List ℕ} {kind : Option Kind} {settings : Settings} {bytes : List ℕ} {status : ℕ} → Answers text kind settings bytes status → status ≡ 10 → RealAt text kind bytes
real_at {status} (refused code position is fault line) ten = not_so status 1 10 is ten (λ e. omega (arith, e))
real_at (realizable p n c is holds) ten = record {
  wanted = p.ground.wanted;
  by = p.is_ground.is_wanted;
  n = n;
  some = holds.machine;
  none = λ k some less. (holds.smaller k some less).none;
  document = p.document;
  states = p.is_printed.states;
  told = ap told_number holds.verdict;
}
real_at {status} (unrealizable p n c is holds) ten = not_so status 20 10 is ten (λ e. omega (arith, e))
real_at {status} (bounded p side n c is holds) ten = not_so status 11 10 is ten (λ e. omega (arith, e))
real_at {status} (no_size p is holds) ten = not_so status 30 10 is ten (λ e. omega (arith, e))
real_at {status} (no_entries p side n is holds) ten = not_so status 30 10 is ten (λ e. omega (arith, e))

pub unreal_at : {text : List ℕ} {kind : Option Kind} {settings : Settings} {bytes : List ℕ} {status : ℕ} → Answers text kind settings bytes status → status ≡ 20 → UnrealAt text kind bytes
unreal_at {status} (refused code position is fault line) twenty = not_so status 1 20 is twenty (λ e. omega (arith, e))
unreal_at {status} (realizable p n c is holds) twenty = not_so status 10 20 is twenty (λ e. omega (arith, e))
unreal_at (unrealizable p n c is holds) twenty = record {
  wanted = p.ground.wanted;
  by = p.is_ground.is_wanted;
  n = n;
  some = holds.machine;
  each = λ k some less. (holds.smaller k some less).each;
  document = p.document;
  states = p.is_printed.states;
  told = ap told_number holds.verdict;
}
unreal_at {status} (bounded p side n c is holds) twenty = not_so status 11 20 is twenty (λ e. omega (arith, e))
unreal_at {status} (no_size p is holds) twenty = not_so status 30 20 is twenty (λ e. omega (arith, e))
unreal_at {status} (no_entries p side n is holds) twenty = not_so status 30 20 is twenty (λ e. omega (arith, e))

module _ (trees : TreesAreDetermined) (documents : DocumentsAreDetermined) (cannot : DefeatingCannotLose) (text : List ℕ) (kind given : Option Kind) (alike : AskAlike text kind given)
    (bytes more : List ℕ) where
  -- what bytes tell is what the document tells that they state
  told_by : (printed : List ℕ) (d e : Document) (n : ℕ) → States printed d → States printed e → told_number e.verdict ≡ n → told_number d.verdict ≡ n
  told_by printed d e n states others told = ap (λ (f : Document). told_number f.verdict) (documents.one_document printed d e states others) ∙ told

  real_numbers : RealAt text kind bytes → RealAt text given more → (d e : Document) → States bytes d → States more e → told_number d.verdict ≡ told_number e.verdict
  real_numbers one two d e states others =
      let same : one.wanted ≡ two.wanted = same_wanted trees text kind given alike one.wanted two.wanted one.by two.by in
      let number : one.n ≡ two.n = neither one.n two.n
      (satisfied_below two.wanted one.n two.n (subst (λ x. SomeSatisfies x one.n) same one.some) two.none)
      (satisfied_below one.wanted two.n one.n (subst (λ x. SomeSatisfies x two.n) (sym same) two.some) one.none) in
      told_by bytes d one.document one.n states one.states one.told ∙ number ∙ sym (told_by more e two.document two.n others two.states two.told)

  unreal_numbers : UnrealAt text kind bytes → UnrealAt text given more → (d e : Document) → States bytes d → States more e → told_number d.verdict ≡ told_number e.verdict
  unreal_numbers one two d e states others =
      let same : one.wanted ≡ two.wanted = same_wanted trees text kind given alike one.wanted two.wanted one.by two.by in
      let number : one.n ≡ two.n = neither one.n two.n
      (defeated_below two.wanted one.n two.n cannot (subst (λ x. SomeDefeats x one.n) same one.some) two.each)
      (defeated_below one.wanted two.n one.n cannot (subst (λ x. SomeDefeats x two.n) (sym same) two.some) one.each) in
      told_by bytes d one.document one.n states one.states one.told ∙ number ∙ sym (told_by more e two.document two.n others two.states two.told)

  not_both : RealAt text kind bytes → UnrealAt text given more → ⊥
  not_both one two =
      let same : one.wanted ≡ two.wanted = same_wanted trees text kind given alike one.wanted two.wanted one.by two.by in
      no_rival two.wanted one.n two.n (subst (λ x. SomeSatisfies x one.n) same one.some) two.some

numbers_told : TreesAreDetermined → DocumentsAreDetermined → DefeatingCannotLose
    → (text : List ℕ) (kind given : Option Kind) (settings other : Settings) (bytes more : List ℕ) (status : ℕ) (d e : Document)
    → AskAlike text kind given → (status ≡ 10) ⊎ (status ≡ 20) → Answers text kind settings bytes status → Answers text given other more status
    → States bytes d → States more e → told_number d.verdict ≡ told_number e.verdict
numbers_told trees documents cannot text kind given settings other bytes more status d e alike (inl ten) a b states others =
    real_numbers trees documents cannot text kind given alike bytes more (real_at a ten) (real_at b ten) d e states others
numbers_told trees documents cannot text kind given settings other bytes more status d e alike (inr twenty) a b states others =
    unreal_numbers trees documents cannot text kind given alike bytes more (unreal_at a twenty) (unreal_at b twenty) d e states others

pub verdicts_are_determined : TreesAreDetermined → DocumentsAreDetermined → DefeatingCannotLose → VerdictsAreDetermined
verdicts_are_determined trees documents cannot = record {
  numbers = numbers_told trees documents cannot;
  never_both = λ text kind given settings other bytes more alike a b.
      not_both trees documents cannot text kind given alike bytes more (real_at a refl) (unreal_at b refl);
}
