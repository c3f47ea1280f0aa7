-- The lines of the nodes of a list, written one after another.
use Rattle.std.specs.Prelude.{IsErrOf, codes, decimal, slice_get}
use Rattle.std.proofs.Common.{◌≡◌, ℕ, zero, suc, ◌+◌, ◌<◌, Bool, true, false, ltb, List, [], ◌∷◌, ◌++◌, length, Option, Some, Result, Ok, Err, OnErr, OnOk, refl, sym, ap, ◌∙◌, subst, append_assoc, append-nil, arith}
use Rattle.std.proofs.lemmas.Bool.{ltb-false, ltb-true}
use Rattle.std.proofs.lemmas.Option.{get_or_from_slice_get}
use Rattle.ltl_formula.specs.declared.nodes.Node.{Node}
use Rattle.ltl_formula.specs.declared.nodes.Node.TheVariants.{False}
use Rattle.ltl_formula.specs.Nodes.{node_at}
use Rattle.input_output.specs.declared.sink.SinkFault.{SinkFault}
use Rattle.input_output.specs.declared.sink.SinkFault.TheVariants.{Failed, NoMemory}
use Rattle.input_output.specs.Bytes.{Gains, GainsFront}
use Rattle.input_output.proofs.EdgeLemmas.{Gains-append}
use Rattle.input_output.proofs.GainLemmas.{front_more, front_of_fault, gains_nothing}
use Rattle.solved_flat.specs.Expand.{first_node_lines, node_line, node_lines, node_words}

module _ (names : List (List ℕ)) (nodes : List Node) where
  abbrev first : ℕ → List ℕ
  first place = first_node_lines names nodes place

  abbrev one : ℕ → List ℕ
  one place = node_line names nodes place

  -- what stands behind the first nodes and one more
  abbrev Behind : ℕ → ℕ → Type 0
  Behind i n = (rest : List ℕ) × ((first i ++ one i) ++ rest ≡ first n)

  behind : (i n : ℕ) → i < n → Behind i n
  behind i zero below = absurd (omega (arith, below))
  behind i (suc n) below = by (ltb i n) refl (behind i n)
    where
      by : (b : Bool) → ltb i n ≡ b → (i < n → Behind i n) → Behind i (suc n)
      by true e before =
          let more : Behind i n = before (ltb-true i n e) in
          (more.0 ++ one n, sym (append_assoc (first i ++ one i) more.0 (one n)) ∙ ap (λ ls. ls ++ one n) more.1)
      by false e before =
          let same : i ≡ n = omega (arith, below, ltb-false i n e) in
          ([], append-nil (first i ++ one i) ∙ ap (λ k. first k ++ one k) same)

  -- the lines so far and a front of the next one are a front of all
  pub lines_front : (a b c : Option (List ℕ)) (i : ℕ) → i < length nodes → Gains a b (first i) → GainsFront b c (one i) → GainsFront a c (node_lines names nodes)
  lines_front a b c i below so_far piece =
      let more : Behind i (length nodes) = behind i (length nodes) below in
      front_more a b c (first i) (one i) more.0 (one i ++ more.0) (first (length nodes)) so_far piece refl
      (sym (append_assoc (first i) (one i) more.0) ∙ more.1)

  -- and with it they are the lines of one node more
  pub gained_more : (a b c : Option (List ℕ)) (place : ℕ) → Gains a b (first place) → Gains b c (one place) → Gains a c (first (place + 1))
  gained_more a b c place so_far piece =
      let next : suc place ≡ place + 1 = omega arith in
      subst (λ n. Gains a c (first n)) next (Gains-append a b c (first place) (one place) so_far piece)

-- a front of the first part is one of the whole
pub front_of_first : (a b : Option (List ℕ)) (part more : List ℕ) → GainsFront a b part → GainsFront a b (part ++ more)
front_of_first a b part more part_front =
    front_more a a b [] part more (part ++ more) (part ++ more) (gains_nothing a a refl) part_front refl refl

-- the second part behind the first is the whole
pub all_behind : {T E : Type 0} (r : Result T E) (a b c : Option (List ℕ)) (part more : List ℕ) → Gains a b part → OnOk r (Gains b c more) → OnOk r (Gains a c (part ++ more))
all_behind (Ok x) a b c part more before gained = Gains-append a b c part more before gained
all_behind (Err e) a b c part more before gained = tt

-- and a front of the second part behind the first is one of the whole
pub front_behind : {T E : Type 0} (r : Result T E) (a b c : Option (List ℕ)) (part more : List ℕ) → Gains a b part → OnErr r (GainsFront b c more) → OnErr r (GainsFront a c (part ++ more))
front_behind (Ok x) a b c part more before front = tt
front_behind (Err e) a b c part more before front = front_more a b c part more [] more (part ++ more) before front (append-nil more) refl

-- what a sink was given where it failed, or had no memory
pub front_of_put : (r : Result (Unit {0}) SinkFault) (a b : Option (List ℕ)) (bytes : List ℕ) → (IsErrOf r Failed → GainsFront a b bytes) → (IsErrOf r NoMemory → b ≡ a)
    → OnErr r (GainsFront a b bytes)
front_of_put (Ok x) a b bytes failed wanted = tt
front_of_put (Err fault) a b bytes failed wanted = front_of_fault fault a b bytes failed wanted

-- the pieces of a node's line, one after another
pub line_is : (names : List (List ℕ)) (nodes : List Node) (place : ℕ) (node : Node) (m0 m1 m2 m3 m4 : List ℕ) → slice_get nodes place ≡ Some node
    → m0 ≡ codes "node " → m1 ≡ m0 ++ decimal place → m2 ≡ m1 ++ 32 ∷ [] → m3 ≡ m2 ++ node_words names node → m4 ≡ m3 ++ 10 ∷ []
    → m4 ≡ node_line names nodes place
line_is names nodes place node m0 m1 m2 m3 m4 at e0 e1 e2 e3 e4 =
    let is : node_at nodes place ≡ node = get_or_from_slice_get nodes place node False at in
    let start : List ℕ = codes "node " ++ decimal place in
    let words : List ℕ = node_words names node in
    let so_far : m2 ≡ start ++ 32 ∷ [] = e2 ∙ ap (λ m. m ++ 32 ∷ []) (e1 ∙ ap (λ m. m ++ decimal place) e0) in
    e4 ∙ ap (λ m. m ++ 10 ∷ []) (e3 ∙ ap (λ m. m ++ words) so_far)
    ∙ append_assoc (start ++ 32 ∷ []) words (10 ∷ []) ∙ append_assoc start (32 ∷ []) (words ++ 10 ∷ [])
    ∙ ap (λ n. start ++ 32 ∷ (node_words names n ++ 10 ∷ [])) (sym is)
