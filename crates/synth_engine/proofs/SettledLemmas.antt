-- Settled sizes, one after the other.
use Rattle.std.proofs.Common.{◌≡◌, ℕ, suc, ◌+◌, ◌-◌, ◌≤◌, List, [], ◌∷◌, ◌++◌, length, refl, sym, ◌∙◌, ap, subst, arith, add-one, length-append, inl, inr}
use Rattle.std.specs.Prelude.{Option, Some, slice_get, ◌⊎◌}
use Rattle.std.proofs.lemmas.List.{map-append}
use Rattle.std.proofs.lemmas.List.Elements.{All-append, All-cons, All-nil}
use Rattle.std_lemmas.proofs.Lists.{slice_get-append}
use Rattle.propositional_logic.specs.Literal.{Literal}
use Rattle.letters_and_lassos.specs.declared.kinds.Side.TheVariants.{System, Environment}
use Rattle.machine_model.specs.Accepts.{SideAccepts}
use Rattle.machine_model.specs.Machine.{MachineModel, size_of}
use Rattle.machine_model.specs.Problem.{Parts, parts_of, reads_of, sized, writes_of}
use Rattle.machine_model.specs.declared.problems.Problem.{Problem}
use Rattle.machine_model.proofs.Tables.{size_pos}
use Rattle.refutation_log.specs.Log.{IsClosed, IsFull, IsLegal}
use Rattle.refutation_log.specs.Teaches.{IsTaught}
use Rattle.size_search.specs.Task.{SizeTaskModel}
use Rattle.size_search.specs.Decided.{IsAcceptedOf, IsClosedOn, IsFullOn}
use Rattle.size_search.specs.declared.size_log.SizeLog.{SizeLog}
use Rattle.synth_engine.specs.declared.settings.Settings.{Settings}
use Rattle.synth_engine.specs.declared.settling.Answer.TheVariants.{Machine, Log}
use Rattle.synth_engine.specs.Logs.{IsClosedLog, IsFullLog, base_at, log_claim}
use Rattle.synth_engine.specs.Tasks.{AreTasks, IsTaskOf}
use Rattle.synth_engine.specs.Outcomes.{AreSettled, IsSettled}
use Rattle.synth_engine.specs.Settled.{IsAnswerOf, IsFoundBelow}

-- the signals of a problem, by what it says
reads_from : Parts → ℕ
reads_from x = elim x.side [ System ↦ x.inputs | Environment ↦ x.outputs ]

writes_from : Parts → ℕ
writes_from x = elim x.side [ System ↦ x.outputs | Environment ↦ x.inputs ]

reads_are : (p : Problem) → reads_of p ≡ reads_from (parts_of p)
unfolding reads_from
reads_are p = refl

writes_are : (p : Problem) → writes_of p ≡ writes_from (parts_of p)
unfolding writes_from
writes_are p = refl

-- problems that say the same accept the same machines
pub accepted_alike : (p q : Problem) (m : MachineModel) → parts_of p ≡ parts_of q → IsAcceptedOf p m → IsAcceptedOf q m
accepted_alike p q m same is =
    let P : Parts → Type 0 = λ (x : Parts). SideAccepts x.automaton x.side m in
    record {
      machine = is.machine;
      looked_for = record {
        kind = is.looked_for.kind ∙ ap (λ x. x.kind) same;
        size = is.looked_for.size ∙ ap (λ x. x.size) same;
        reads = is.looked_for.reads ∙ reads_are p ∙ ap reads_from same ∙ sym (reads_are q);
        writes = is.looked_for.writes ∙ writes_are p ∙ ap writes_from same ∙ sym (writes_are q);
      };
      accepted = subst P same is.accepted;
    }

-- the tasks without the last one, and that one
pub tasks_pop : (p : Problem) (settings : Settings) (top : ℕ) (tasks rest : List SizeTaskModel) (t : SizeTaskModel) → tasks ≡ rest ++ t ∷ [] → AreTasks p settings top tasks
    → AreTasks p settings top rest × IsTaskOf p settings (top - length rest) t
tasks_pop p settings top tasks rest t is are =
    let n : length tasks ≡ length rest + 1 = ap length is ∙ length-append rest (t ∷ []) in
    let few : length tasks ≤ top = are.few in (
      record { few = omega arith; each = λ k u at. are.each k u (rw is (slice_get-append rest (t ∷ []) k u at)) },
      are.each (length rest) t (rw is (last_there rest t)),
    )
  where
    last_there : (xs : List SizeTaskModel) (x : SizeTaskModel) → slice_get (xs ++ x ∷ []) (length xs) ≡ Some x
    last_there [] x = refl
    last_there (y ∷ ys) x = last_there ys x

-- THE LOG OF A TASK

module _ (p : Problem) (settings : Settings) (t : SizeTaskModel) (l : SizeLog) (n : ℕ) (task : IsTaskOf p settings n t) (answer : IsAnswerOf t (Log l)) where
  pub size_is : l.size ≡ n
  size_is = answer.0.size ∙ ap (λ x. x.size) task.parts

  here : IsTaskOf p settings l.size t
  here = subst (λ k. IsTaskOf p settings k t) (sym size_is) task

  vars_are : t.exchange.terms.vars ≡ l.vars
  vars_are = ap (λ x. x.vars) here.terms ∙ sym answer.0.vars

  base_is : t.exchange.terms.base ≡ base_at p l.size
  base_is = ap (λ x. x.base) here.terms ∙ here.base

  limit_is : t.exchange.terms.limit ≡ settings.entries
  limit_is = ap (λ x. x.limit) here.terms

  seats_are : t.exchange.terms.seats ≡ settings.workers + 1
  seats_are = ap (λ x. x.seats) here.terms

  to_log : (P : ℕ → List (List Literal) → Option ℕ → Type 0) → P t.exchange.terms.vars t.exchange.terms.base t.exchange.terms.limit → P l.vars (base_at p l.size) settings.entries
  to_log P h = subst (P l.vars (base_at p l.size)) limit_is (subst (λ b. P l.vars b t.exchange.terms.limit) base_is (subst (λ v. P v t.exchange.terms.base t.exchange.terms.limit) vars_are h))

  from_log : (P : ℕ → List (List Literal) → Option ℕ → Type 0) → P l.vars (base_at p l.size) settings.entries → P t.exchange.terms.vars t.exchange.terms.base t.exchange.terms.limit
  from_log P h = subst (λ v. P v t.exchange.terms.base t.exchange.terms.limit) (sym vars_are) (subst (λ b. P l.vars b t.exchange.terms.limit) (sym base_is) (subst (P l.vars (base_at p l.size)) (sym limit_is) h))

  Closed : ℕ → List (List Literal) → Option ℕ → Type 0
  Closed vars base limit = IsClosed vars base limit l.log.entries

  Full : ℕ → List (List Literal) → Option ℕ → Type 0
  Full vars base limit = IsFull vars base limit l.log.entries

  Legal : ℕ → List (List Literal) → Option ℕ → Type 0
  Legal vars base limit = IsLegal vars base limit l.log.entries

  is_ended : IsClosedOn t.exchange.terms l.log.entries ⊎ IsFullOn t.exchange.terms l.log.entries → IsClosedLog p settings l ⊎ IsFullLog p settings l
  unfolding Closed Full
  is_ended (inl closed) = inl (to_log Closed closed)
  is_ended (inr full) = inr (to_log Full full)

  pub log_is_settled : IsSettled p settings l
  unfolding Closed Legal
  log_is_settled = record {
    log = record {
      side = answer.0.side ∙ ap (λ x. x.side) here.parts;
      vars = answer.0.vars ∙ here.vars;
      base = answer.0.base ∙ ap length here.base;
      limit = answer.0.limit ∙ limit_is;
      legal = to_log Legal answer.0.log.legal;
      taught = subst (λ b. IsTaught b l.log.entries) base_is answer.0.log.taught;
      sorted = answer.0.sorted;
      by = λ k d h. let e = answer.0.log.of_passes k d h in let s = seats_are in omega arith;
    };
    ended = is_ended answer.1;
    refutes = λ closed m is. answer.2 (from_log Closed closed) m (accepted_alike (sized p l.size) t.problem m (sym here.parts) is);
  }

  pub place_is : log_claim l ≡ record { side = p.side; size = n }
  place_is = λ i. record { side = (answer.0.side ∙ ap (λ x. x.side) here.parts) i; size = size_is i }

-- one settled size more
pub settled_more : (p : Problem) (settings : Settings) (count : ℕ) (logs later : List SizeLog) (l : SizeLog) → AreSettled p settings count logs → later ≡ logs ++ l ∷ []
    → log_claim l ≡ record { side = p.side; size = count + 1 } → IsSettled p settings l → AreSettled p settings (count + 1) later
settled_more p settings count logs later l are is at settled =
    let one : count + 1 ≡ suc count = add-one count in
    let where_it_is : log_claim l ≡ record { side = p.side; size = suc count } = at ∙ (λ i. record { side = p.side; size = one i }) in
    rw (is, one) (record {
      places = map-append log_claim logs (l ∷ []) ∙ (λ i. are.places i ++ where_it_is i ∷ []);
      each = All-append (IsSettled p settings) logs (l ∷ []) are.each (All-cons (IsSettled p settings) l [] settled (All-nil (IsSettled p settings)));
    })

-- a machine after some settled sizes
pub found_after : (p : Problem) (settings : Settings) (count n : ℕ) (logs : List SizeLog) (t : SizeTaskModel) (m : MachineModel) → IsTaskOf p settings n t → IsAnswerOf t (Machine m)
    → n ≤ count → AreSettled p settings (n - 1) logs → IsFoundBelow p settings count logs m
found_after p settings count n logs t m task answer most are =
    let is : IsAcceptedOf (sized p n) m = accepted_alike t.problem (sized p n) m task.parts answer in
    let size : size_of m ≡ n = is.looked_for.size in
    record {
      accepted = subst (λ k. IsAcceptedOf (sized p k) m) (sym size) is;
      some = size_pos m is.machine.shape;
      most = omega arith;
      smaller = subst (λ k. AreSettled p settings (k - 1) logs) (sym size) are;
    }
