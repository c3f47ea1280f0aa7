-- The edges of one source, and what they lead to.
use Rattle.std.proofs.Common.{◌≡◌, ℕ, ◌+◌, ◌-◌, ◌%◌, ◌^◌, ◌<◌, ◌≤◌, Bool, true, false, leb, ltb, List, length, get_or, take, drop, refl, sym, ap, subst, ◌∙◌, arith, inl, inr}
use Rattle.std.specs.Prelude.{All, Contains}
use Rattle.std.specs.List.Sorted.{IsNonDecreasingBy, IsPartitionPoint, IsPartitionedBy, IsPermutation}
use Rattle.std.proofs.lemmas.Bool.{cases_lt, leb-true, leb-false, le-leb, lt-ltb, ltb-true, ltb-false}
use Rattle.std.proofs.lemmas.List.Sorted.{Contains-permutation, IsPermutation-sym}
use Rattle.std.proofs.lemmas.List.{get_or-drop, get_or-take, get_or_default, length-drop, length-take-le}
use Rattle.letters_and_lassos.specs.declared.kinds.Side.{Side}
use Rattle.letters_and_lassos.specs.declared.letters.Letter.{Letter}
use Rattle.letters_and_lassos.specs.Cube.{Fits}
use Rattle.letters_and_lassos.proofs.Sets.{has-zero}
use Rattle.machine_model.specs.declared.automata.Edge.{Edge}
use Rattle.machine_model.specs.Automaton.{AutomatonModel, HasEdge, JoinsStates}
use Rattle.aiger_text.specs.Circuit.{Circuit}
use Rattle.annot_check.specs.declared.pairs.Pair.{Pair}
use Rattle.annot_check.specs.declared.numbers.Numbers.{Numbers}
use Rattle.annot_check.specs.Causes.{BreaksRule}
use Rattle.annot_check.specs.Numbers.{Knows, greatest_at}
use Rattle.annot_check.specs.Pairs.{weight}
use Rattle.annot_check.specs.Steps.{AreEdgesFrom, HasTheEdges, IsEnough, IsReaction, LeadsOn, OneFails, TellsRule, read_of}
use Rattle.annot_check.specs.Valid.{Goes, KeepsRule}
use Rattle.annot_check.proofs.Letters.{read_below}
use Rattle.annot_check.proofs.Lists.{All-Contains}

-- ---- edges that are sorted by their source

abbrev by_from : List Edge → Type 0
by_from edges = IsNonDecreasingBy (λ (edge : Edge). edge.from) edges

pub below_parted : (edges : List Edge) (source : ℕ) → by_from edges → IsPartitionedBy (λ (edge : Edge). ltb edge.from source) edges
below_parted edges source sorted i j d le h e =
    let order : (get_or edges i d).from ≤ (get_or edges j d).from = sorted i j d le h in
    let less : (get_or edges j d).from < source = ltb-true (get_or edges j d).from source e in
    lt-ltb (get_or edges i d).from source (omega arith)

pub within_parted : (edges : List Edge) (source : ℕ) → by_from edges → IsPartitionedBy (λ (edge : Edge). leb edge.from source) edges
within_parted edges source sorted i j d le h e =
    let order : (get_or edges i d).from ≤ (get_or edges j d).from = sorted i j d le h in
    let less : (get_or edges j d).from ≤ source = leb-true (get_or edges j d).from source e in
    le-leb (get_or edges i d).from source (omega arith)

module _ (edges : List Edge) (source begin end : ℕ)
    (first : IsPartitionPoint (λ (edge : Edge). ltb edge.from source ≡ true) (λ (edge : Edge). ltb edge.from source ≡ false) edges begin)
    (last : IsPartitionPoint (λ (edge : Edge). leb edge.from source ≡ true) (λ (edge : Edge). leb edge.from source ≡ false) edges end)
    (inside : end ≤ length edges) where
  -- an edge of the source stands between the two
  begins : (k : ℕ) (d : Edge) → k < length edges → (get_or edges k d).from ≡ source → begin ≤ k
  begins k d h is = elim (cases_lt k begin) [
    | inl less ↦ (let low : (get_or edges k d).from < source = ltb-true (get_or edges k d).from source (first.0 k d (omega arith) less) in absurd (omega arith))
    | inr le ↦ le
  ]

  ends : (k : ℕ) (d : Edge) → k < length edges → (get_or edges k d).from ≡ source → k < end
  ends k d h is = elim (cases_lt k end) [
    | inl less ↦ less
    | inr le ↦ (let high : source < (get_or edges k d).from = leb-false (get_or edges k d).from source (last.1 k d le h) in absurd (omega arith))
  ]

  pub in_order : begin ≤ end → AreEdgesFrom edges (take (end - begin) (drop begin edges)) source
  in_order order = record {
    all = λ edge there is.
        let own : (get_or edges there.0 edge).from ≡ source = ap (λ (e : Edge). e.from) there.2 ∙ is in
        let low : begin ≤ there.0 = begins there.0 edge there.1 own in
        let high : there.0 < end = ends there.0 edge there.1 own in
        let place : begin + (there.0 - begin) ≡ there.0 = omega arith in (
          there.0 - begin,
          between (there.0 - begin) (omega arith),
          at (there.0 - begin) edge (omega arith) ∙ ap (λ k. get_or edges k edge) place ∙ there.2,
        );
    among = λ edge there.
        let few : there.0 < end - begin = inner there.0 there.1 in
        let is : get_or edges (begin + there.0) edge ≡ edge = sym (at there.0 edge few) ∙ there.2 in
        let high : (get_or edges (begin + there.0) edge).from ≤ source = leb-true (get_or edges (begin + there.0) edge).from source (last.0 (begin + there.0) edge (omega arith) (omega arith)) in
        let low : source ≤ (get_or edges (begin + there.0) edge).from = ltb-false (get_or edges (begin + there.0) edge).from source (first.1 (begin + there.0) edge (omega arith) (omega arith)) in
        ((begin + there.0, omega arith, is), ap (λ (e : Edge). e.from) (sym is) ∙ (let e : (get_or edges (begin + there.0) edge).from ≡ source = omega arith in e));
  }
    where
      len : length (take (end - begin) (drop begin edges)) ≡ end - begin
      len = length-take-le (end - begin) (drop begin edges) (let d : length (drop begin edges) ≡ length edges - begin = length-drop begin edges in omega arith)

      at : (k : ℕ) (d : Edge) → k < end - begin → get_or (take (end - begin) (drop begin edges)) k d ≡ get_or edges (begin + k) d
      at k d h = get_or-take (end - begin) (drop begin edges) k d h ∙ get_or-drop begin edges k d

      between : (k : ℕ) → k < end - begin → k < length (take (end - begin) (drop begin edges))
      between k h = subst (λ n. k < n) (sym len) h

      inner : (k : ℕ) → k < length (take (end - begin) (drop begin edges)) → k < end - begin
      inner k h = subst (λ n. k < n) len h

-- edges of a source join states where all edges do
pub joined_from : (n : ℕ) (edges from : List Edge) (source : ℕ) → All (JoinsStates n) edges → AreEdgesFrom edges from source → All (JoinsStates n) from
joined_from n edges from source joined among k d h =
    All-Contains (JoinsStates n) edges (get_or from k d) joined (among.among (get_or from k d) (k, h, get_or_default from k (get_or from k d) d h)).0

-- the edges of a source among those that were sorted are those among all
pub from_sorted : (edges sorted from : List Edge) (source : ℕ) → HasTheEdges edges sorted → AreEdgesFrom sorted from source → AreEdgesFrom edges from source
from_sorted edges sorted from source same among = record {
  all = λ edge there is. among.all edge (same.there edge there) is;
  among = λ edge there. (let own = among.among edge there in (same.back edge own.0, own.1));
}

-- sorting keeps them
pub same_edges : (edges before after : List Edge) → before ≡ edges → IsPermutation before after → HasTheEdges edges after
same_edges edges before after is permuted = record {
  there = λ edge h. Contains-permutation before after edge permuted (subst (λ (es : List Edge). Contains es edge) (sym is) h);
  back = λ edge h. subst (λ (es : List Edge). Contains es edge) is (Contains-permutation after before edge (IsPermutation-sym before after permuted) h);
}

-- the places that two binary searches end at are in order
pub in_turn : (edges : List Edge) (source begin end : ℕ) → IsPartitionPoint (λ (edge : Edge). ltb edge.from source ≡ true) (λ (edge : Edge). ltb edge.from source ≡ false) edges begin
    → IsPartitionPoint (λ (edge : Edge). leb edge.from source ≡ true) (λ (edge : Edge). leb edge.from source ≡ false) edges end → begin ≤ length edges → begin ≤ end
in_turn edges source begin end first last inside = elim (cases_lt end begin) [
  | inr le ↦ le
  | inl less ↦
      let d : Edge = record { from = 0; cube = record { must = 0; not = 0; apart = λ k h more. has-zero k h }; to = 0 } in
      let low : (get_or edges end d).from < source = ltb-true (get_or edges end d).from source (first.0 end d (omega arith) less) in
      let high : source < (get_or edges end d).from = leb-false (get_or edges end d).from source (last.1 end d (omega arith) (omega arith)) in
      absurd (omega arith)
]

-- ---- what a pair leads to

module _ (numbers : Numbers) (a : AutomatonModel) (number : ℕ) (next : List Bool) (letter : Letter) where
  abbrev Enough : ℕ → Type 0
  Enough state = IsEnough numbers a number next state

  -- the scratch place has the values of the next code
  same_enough : (code : List Bool) (state : ℕ) → code ≡ next → IsEnough numbers a number code state → Enough state
  same_enough code state same h = subst (λ (x : List Bool). IsEnough numbers a number x state) same h

  pub leads_here : (code : List Bool) (edge : Edge) → code ≡ next → IsEnough numbers a number code edge.to → LeadsOn letter Enough edge
  leads_here code edge same h = record { leads = λ _. same_enough code edge.to same h }

  pub leads_not : (edge : Edge) → (Fits edge.cube letter → ⊥) → LeadsOn letter Enough edge
  leads_not edge none = record { leads = λ fits. absurd (none fits) }

  pub fails_here : (edges : List Edge) (i : ℕ) (code : List Bool) (edge : Edge) → i < length edges → edge ≡ get_or edges i edge → code ≡ next → Fits edge.cube letter
      → (IsEnough numbers a number code edge.to → ⊥) → OneFails letter Enough edges
  fails_here edges i code edge h is same fits fails = record {
    edge = edge;
    among = (i, h, sym is);
    fits = fits;
    fails = λ enough. fails (subst (λ (x : List Bool). IsEnough numbers a number x edge.to) (sym same) enough);
  }

module _ (side : Side) (c : Circuit) (a : AutomatonModel) (numbers : Numbers) (pair : Pair) where
  -- so far each letter that reads less than n leads on
  pub record LeadsBelow (n : ℕ) : Type 0 where
    pub below : (letter : Letter) (next : List Bool) (state : ℕ) → Goes side c pair.code letter next → read_of side c letter.0 < n
        → HasEdge a letter pair.state state → IsEnough numbers a pair.number next state

  pub leads_none : LeadsBelow 0
  leads_none = record { below = λ letter next state g less edge. absurd (omega arith) }

module _ (side : Side) (c : Circuit) (a : AutomatonModel) (numbers : Numbers) (pair : Pair) (edges : List Edge) (from : AreEdgesFrom a.edges edges pair.state) where
  pub leads_more : (read : ℕ) (letter : Letter) (next code : List Bool) → code ≡ next → LeadsBelow side c a numbers pair read → IsReaction side c pair.code read letter next
      → All (LeadsOn letter (IsEnough numbers a pair.number code)) edges → LeadsBelow side c a numbers pair (read + 1)
  leads_more read letter next code same before reaction lead = record {
    below = λ other to state g less edge. elim (cases_lt (read_of side c other.0) read) [
      | inl early ↦ before.below other to state g early edge
      | inr late ↦
          let here : read_of side c other.0 ≡ read = omega arith in
          let one = reaction.only other to g here in
          let fits : Fits edge.cube letter = subst (Fits edge.cube) one.0 edge.fits in
          let this : Edge = record { from = pair.state; cube = edge.cube; to = state } in
          subst (λ (x : List Bool). IsEnough numbers a pair.number x state) (same ∙ sym one.1)
          ((All-Contains (LeadsOn letter (IsEnough numbers a pair.number code)) edges this lead (from.all this edge.stands refl)).leads fits)
    ];
  }

  pub keeps : (n : ℕ) → n ≡ 2 ^ length c.inputs → LeadsBelow side c a numbers pair n → (pairs : List Pair) → Knows (greatest_at numbers) pairs → KeepsRule side c a pairs pair
  keeps n whole leads pairs knows = record {
    rule = λ letter next state g edge. knows.finds (record { code = next; state = state }) (pair.number + weight a state)
        (leads.below letter next state g (let low : read_of side c letter.0 < 2 ^ length c.inputs = read_below side c letter.0 g.within in omega arith) edge);
  }

  pub breaks : (read : ℕ) (letter : Letter) (next : List Bool) → IsReaction side c pair.code read letter next → OneFails letter (IsEnough numbers a pair.number next) edges
      → (pairs : List Pair) → Knows (greatest_at numbers) pairs → BreaksRule side c a pairs pair
  breaks read letter next reaction one pairs knows =
      let there = from.among one.edge one.among in
      record {
        letter = letter;
        next = next;
        state = one.edge.to;
        goes = reaction.goes;
        edge = record {
          cube = one.edge.cube;
          stands = subst (λ (e : Edge). Contains a.edges e) (λ i. record { from = there.1 i; cube = one.edge.cube; to = one.edge.to }) there.0;
          fits = one.fits;
        };
        missing = λ stands. one.fails (knows.finds_all (record { code = next; state = one.edge.to }) (pair.number + weight a one.edge.to) stands);
      }

  pub tells_yes : (n : ℕ) → n ≡ 2 ^ length c.inputs → LeadsBelow side c a numbers pair n → TellsRule side c a numbers pair true
  tells_yes n whole leads = record { holds = λ pairs knows _. keeps n whole leads pairs knows; fails = λ pairs knows e. absurd (cc) }

  pub tells_no : (read : ℕ) (letter : Letter) (next code : List Bool) → code ≡ next → IsReaction side c pair.code read letter next → OneFails letter (IsEnough numbers a pair.number code) edges
      → TellsRule side c a numbers pair false
  tells_no read letter next code same reaction one = record {
    holds = λ pairs knows e. absurd (cc);
    fails = λ pairs knows _.
        breaks read letter next reaction (subst (λ (x : List Bool). OneFails letter (IsEnough numbers a pair.number x) edges) same one) pairs knows;
  }
