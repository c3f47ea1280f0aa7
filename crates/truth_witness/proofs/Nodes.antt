-- What the truth of a node owes to that of its parts, here and at the next position, is met where these are the truths on a lasso.
use Rattle.std.proofs.Common.{◌≡◌, ℕ, ◌+◌, ◌-◌, ◌^◌, ◌<◌, Bool, true, false, not, eqb, ◌&&◌, ◌||◌, List, ◌++◌, length, get_or, refl, sym, ap, ◌∙◌, arith, inl, inr}
use Rattle.std.proofs.lemmas.Bool.{cases_lt}
use Rattle.std.proofs.lemmas.List.{get_or_past, get_or_append_left, get_or-append_right}
use Rattle.std.proofs.lemmas.Nat.Bits.{bit_at_above}
use Rattle.letters_and_lassos.specs.Signals.{has}
use Rattle.letters_and_lassos.specs.Word.{Word, HasRing, lasso_len, letter_at, next as following}
use Rattle.ltl_formula.specs.declared.nodes.FormulaId.{FormulaId}
use Rattle.ltl_formula.specs.declared.nodes.Node.{Node}
use Rattle.ltl_formula.specs.declared.nodes.Node.TheVariants.{True, False, Signal, Not, Next, Finally, Globally, And, Or, Implies, Equiv, Until, Release, WeakUntil}
use Rattle.ltl_formula.specs.Tree.{Tree}
use Rattle.ltl_formula.specs.Nodes.{pick, tree_of}
use Rattle.ltl_formula.specs.Truth.{holds, until_at, release_at}
use Rattle.ltl_formula.proofs.Ahead.{until_at-unfold, release_at-unfold}
use Rattle.aiger_text.specs.Circuit.{Valuation, AreSignals, literal_value}
use Rattle.truth_witness.specs.Clauses.{opposite}
use Rattle.truth_witness.specs.Witness.{Claim}
use Rattle.truth_witness.specs.Variables.{parts_of, truth_literal, signal_literal, shifted}
use Rattle.truth_witness.specs.Frames.{node_here, node_ahead}
use Rattle.truth_witness.specs.Truths.{are_met}
use Rattle.truth_witness.proofs.Values.{value_opposite}
use Rattle.truth_witness.proofs.Ids.{In}
use Rattle.truth_witness.proofs.Meeting.{met_one, met_equal, met_conjoined}

-- Two lists of literals have a letter's values one behind the other: so has their join, and 0 stands behind it, where a letter over
-- so many signals has none.
pub joined_signals : (values : Valuation) (first second : List ℕ) (signals : ℕ) → AreSignals values first signals 0 → AreSignals values second signals (length first)
    → signals < 2 ^ (length first + length second) → (s : ℕ) → literal_value values (get_or (first ++ second) s 0) ≡ has signals s
joined_signals values first second signals low high small s = elim (cases_lt s (length first)) [
  | inl before ↦
      let e : 0 + s ≡ s = omega arith in
      ap (literal_value values) (get_or_append_left first second 0 s before) ∙ low s before ∙ ap (has signals) e
  | inr behind ↦
      ap (literal_value values) (get_or-append_right first second (length first) s 0 refl behind)
      ∙ elim (cases_lt (s - length first) (length second)) [
        | inl within ↦
            let e : length first + (s - length first) ≡ s = omega arith in
            high (s - length first) within ∙ ap (has signals) e
        | inr past ↦
            ap (literal_value values) (get_or_past second (s - length first) 0 past)
            ∙ sym (ap (λ (digit : ℕ). eqb digit 1) (bit_at_above signals (length first + length second) s small (omega arith)))
      ]
]

module _ (x : Claim) (trees : List Tree) (word : Word) (ring : HasRing word) (values : Valuation) (i : ℕ) (within : i < lasso_len word) where
  off : {t : Bool} (l : ℕ) → literal_value values l ≡ t → literal_value values (opposite l) ≡ not t
  off l e = value_opposite values l ∙ ap not e

  module _ (signals : (s : ℕ) → literal_value values (signal_literal x s) ≡ has (letter_at word i).0 s) where
    pub here_met : (v : ℕ) (node : Node) → literal_value values v ≡ holds word (tree_of trees node) i
        → ((a : FormulaId) → In a.0 (parts_of node) → literal_value values (truth_literal x a) ≡ holds word (pick trees a) i)
        → are_met values (node_here x v node) ≡ true
    here_met v True says parts = met_one values v says
    here_met v False says parts = met_one values (opposite v) (off v says)
    here_met v (Signal s) says parts = met_equal values v (signal_literal x s) (says ∙ sym (signals s))
    here_met v (Not a) says parts =
        met_equal values v (opposite (truth_literal x a)) (says ∙ ap not (sym (parts a (inl refl))) ∙ sym (value_opposite values (truth_literal x a)))
    here_met v (Next a) says parts = refl
    here_met v (Finally a) says parts = refl
    here_met v (Globally a) says parts = refl
    here_met v (And a b) says parts =
        met_conjoined values v (truth_literal x a) (truth_literal x b)
        (says ∙ (λ i. sym (parts a (inl refl)) i && sym (parts b (inr (inl refl))) i))
    here_met v (Or a b) says parts =
        (λ j. (says j || (off (truth_literal x a) (parts a (inl refl)) j || false))
        && ((says j || (off (truth_literal x b) (parts b (inr (inl refl))) j || false))
        && ((nv j || (parts a (inl refl) j || (parts b (inr (inl refl)) j || false))) && true)))
        ∙ by (holds word (pick trees a) i) (holds word (pick trees b) i)
      where
        nv : literal_value values (opposite v) ≡ not (holds word (pick trees a) i || holds word (pick trees b) i)
        nv = off v says

        by : (a b : Bool) → (((a || b) || (not a || false)) && (((a || b) || (not b || false)) && ((not (a || b) || (a || (b || false))) && true))) ≡ true
        by true true = refl
        by true false = refl
        by false true = refl
        by false false = refl
    here_met v (Implies a b) says parts = refl
    here_met v (Equiv a b) says parts = refl
    here_met v (Until a b) says parts =
        (λ j. (unfolded j || (off (truth_literal x b) (parts b (inr (inl refl))) j || false))
        && ((nv j || (parts a (inl refl) j || (parts b (inr (inl refl)) j || false))) && true))
        ∙ by (holds word (pick trees a) i) (holds word (pick trees b) i) (until_at word (holds word (pick trees a)) (holds word (pick trees b)) (following word i))
      where
        unfolded : literal_value values v ≡ (holds word (pick trees b) i || (holds word (pick trees a) i && until_at word (holds word (pick trees a)) (holds word (pick trees b)) (following word i)))
        unfolded = says ∙ until_at-unfold word (holds word (pick trees a)) (holds word (pick trees b)) i ring within

        nv : literal_value values (opposite v) ≡ not (holds word (pick trees b) i || (holds word (pick trees a) i && until_at word (holds word (pick trees a)) (holds word (pick trees b)) (following word i)))
        nv = off v unfolded

        by : (a b u : Bool) → (((b || (a && u)) || (not b || false)) && ((not (b || (a && u)) || (a || (b || false))) && true)) ≡ true
        by true true u = refl
        by true false true = refl
        by true false false = refl
        by false true u = refl
        by false false u = refl
    here_met v (Release a b) says parts =
        (λ j. (nv j || (parts b (inr (inl refl)) j || false))
        && ((unfolded j || (off (truth_literal x a) (parts a (inl refl)) j || (off (truth_literal x b) (parts b (inr (inl refl))) j || false))) && true))
        ∙ by (holds word (pick trees a) i) (holds word (pick trees b) i) (release_at word (holds word (pick trees a)) (holds word (pick trees b)) (following word i))
      where
        unfolded : literal_value values v ≡ (holds word (pick trees b) i && (holds word (pick trees a) i || release_at word (holds word (pick trees a)) (holds word (pick trees b)) (following word i)))
        unfolded = says ∙ release_at-unfold word (holds word (pick trees a)) (holds word (pick trees b)) i ring within

        nv : literal_value values (opposite v) ≡ not (holds word (pick trees b) i && (holds word (pick trees a) i || release_at word (holds word (pick trees a)) (holds word (pick trees b)) (following word i)))
        nv = off v unfolded

        by : (a b r : Bool) → ((not (b && (a || r)) || (b || false)) && (((b && (a || r)) || (not a || (not b || false))) && true)) ≡ true
        by true true r = refl
        by true false r = refl
        by false true true = refl
        by false true false = refl
        by false false r = refl
    here_met v (WeakUntil a b) says parts = refl

  pub ahead_met : (v : ℕ) (node : Node) → literal_value values v ≡ holds word (tree_of trees node) i
      → literal_value values (shifted x v) ≡ holds word (tree_of trees node) (following word i)
      → ((a : FormulaId) → In a.0 (parts_of node) → literal_value values (truth_literal x a) ≡ holds word (pick trees a) i)
      → ((a : FormulaId) → In a.0 (parts_of node) → literal_value values (shifted x (truth_literal x a)) ≡ holds word (pick trees a) (following word i))
      → are_met values (node_ahead x v node) ≡ true
  ahead_met v True says then_says parts then_parts = refl
  ahead_met v False says then_says parts then_parts = refl
  ahead_met v (Signal s) says then_says parts then_parts = refl
  ahead_met v (Not a) says then_says parts then_parts = refl
  ahead_met v (Next a) says then_says parts then_parts = met_equal values v (shifted x (truth_literal x a)) (says ∙ sym (then_parts a (inl refl)))
  ahead_met v (Finally a) says then_says parts then_parts = refl
  ahead_met v (Globally a) says then_says parts then_parts = refl
  ahead_met v (And a b) says then_says parts then_parts = refl
  ahead_met v (Or a b) says then_says parts then_parts = refl
  ahead_met v (Implies a b) says then_says parts then_parts = refl
  ahead_met v (Equiv a b) says then_says parts then_parts = refl
  ahead_met v (Until a b) says then_says parts then_parts =
      (λ j. (nv j || (parts b (inr (inl refl)) j || (then_says j || false)))
      && ((unfolded j || (off (truth_literal x a) (parts a (inl refl)) j || (off (shifted x v) then_says j || false))) && true))
      ∙ by (holds word (pick trees a) i) (holds word (pick trees b) i) (until_at word (holds word (pick trees a)) (holds word (pick trees b)) (following word i))
    where
      unfolded : literal_value values v ≡ (holds word (pick trees b) i || (holds word (pick trees a) i && until_at word (holds word (pick trees a)) (holds word (pick trees b)) (following word i)))
      unfolded = says ∙ until_at-unfold word (holds word (pick trees a)) (holds word (pick trees b)) i ring within

      nv : literal_value values (opposite v) ≡ not (holds word (pick trees b) i || (holds word (pick trees a) i && until_at word (holds word (pick trees a)) (holds word (pick trees b)) (following word i)))
      nv = off v unfolded

      by : (a b u : Bool) → ((not (b || (a && u)) || (b || (u || false))) && (((b || (a && u)) || (not a || (not u || false))) && true)) ≡ true
      by true true u = refl
      by true false true = refl
      by true false false = refl
      by false true u = refl
      by false false u = refl
  ahead_met v (Release a b) says then_says parts then_parts =
      (λ j. (nv j || (parts a (inl refl) j || (then_says j || false)))
      && ((unfolded j || (off (truth_literal x b) (parts b (inr (inl refl))) j || (off (shifted x v) then_says j || false))) && true))
      ∙ by (holds word (pick trees a) i) (holds word (pick trees b) i) (release_at word (holds word (pick trees a)) (holds word (pick trees b)) (following word i))
    where
      unfolded : literal_value values v ≡ (holds word (pick trees b) i && (holds word (pick trees a) i || release_at word (holds word (pick trees a)) (holds word (pick trees b)) (following word i)))
      unfolded = says ∙ release_at-unfold word (holds word (pick trees a)) (holds word (pick trees b)) i ring within

      nv : literal_value values (opposite v) ≡ not (holds word (pick trees b) i && (holds word (pick trees a) i || release_at word (holds word (pick trees a)) (holds word (pick trees b)) (following word i)))
      nv = off v unfolded

      by : (a b r : Bool) → ((not (b && (a || r)) || (a || (r || false))) && (((b && (a || r)) || (not b || (not r || false))) && true)) ≡ true
      by true true r = refl
      by true false true = refl
      by true false false = refl
      by false true true = refl
      by false true false = refl
      by false false true = refl
      by false false false = refl
  ahead_met v (WeakUntil a b) says then_says parts then_parts = refl
