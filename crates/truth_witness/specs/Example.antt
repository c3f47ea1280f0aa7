-- The definitions on examples that were written by hand. The first is a witness with its base clauses: `G F g`, without inputs, by a latch that turns at each step. Its negated form is
-- `true U (false R !g)`. The one part has neither rank nor index bits and awaits that until. The nodes 1, 2 and 4 to 9 don't occur.
use Rattle.std.specs.Prelude.{◌≡◌, ℕ, true, false, List, [], ◌∷◌, ◌++◌, None}
use Rattle.letters_and_lassos.specs.declared.kinds.Side.TheVariants.{System, Environment}
use Rattle.ltl_formula.specs.declared.nodes.Node.{Node}
use Rattle.ltl_formula.specs.declared.nodes.Node.TheVariants.{True, False, Signal, Not, Next, And, Or, Until, Release}
use Rattle.propositional_logic.specs.Literal.{Literal}
use Rattle.aiger_text.specs.Circuit.{Circuit}
use Rattle.truth_witness.specs.declared.witnesses.Obligation.TheVariants.{Base, Keep, Cover, Enter, Stay, Fall}
use Rattle.truth_witness.specs.Clauses.{made, base_clauses}
use Rattle.truth_witness.specs.Witness.{Part, Claim}
use Rattle.truth_witness.specs.Variables.{ids, frame_size, signal_literals}
use Rattle.truth_witness.specs.Frames.{as_id, frame, next_frame, start, step}
use Rattle.truth_witness.specs.Falls.{differs, fall}
use Rattle.truth_witness.specs.Obligations.{own, clauses_of, variables_of}

-- a variable as a literal, and its negation
abbrev pub yes : ℕ → Literal
yes v = record { var = v; positive = true }

abbrev pub no : ℕ → Literal
no v = record { var = v; positive = false }

-- `aag 1 0 1 1 0`, `2 3`, `2`
abbrev pub turning : Circuit
turning = record {
  variables = 1;
  inputs = [];
  latches = record { literal = 2; next = 3; reset = false } ∷ [];
  outputs = 2 ∷ [];
  gates = [];
  input_names = [];
  output_names = None ∷ [];
}

abbrev pub nodes_of_it : List Node
nodes_of_it =
    Signal 0 ∷ Next (as_id 0) ∷ Next (as_id 1) ∷ True ∷ Next (as_id 3) ∷ Next (as_id 4) ∷ Next (as_id 5) ∷ Next (as_id 6) ∷ Next (as_id 7)
    ∷ Next (as_id 8) ∷ False ∷ Not (as_id 0) ∷ Release (as_id 10) (as_id 11) ∷ Until (as_id 3) (as_id 12) ∷ []

abbrev pub often : Claim
often = record {
  side = System;
  circuit = turning;
  nodes = nodes_of_it;
  form = as_id 13;
  witness = record {
    latches = [];
    gates = [];
    always = 1;
    parts = record { start = 1; inv = 14; rank = []; index = [] } ∷ [];
  };
}

-- the base clauses by hand, by their numbers in the obligations
abbrev pub now_1_to_10 : List (List Literal)
now_1_to_10 =
    (yes 1 ∷ no 2 ∷ []) ∷ (no 1 ∷ yes 2 ∷ []) ∷ (yes 3 ∷ []) ∷ (no 4 ∷ []) ∷ (no 2 ∷ no 5 ∷ []) ∷ (yes 2 ∷ yes 5 ∷ [])
    ∷ (yes 5 ∷ no 6 ∷ []) ∷ (no 4 ∷ no 5 ∷ yes 6 ∷ []) ∷ (no 6 ∷ yes 7 ∷ []) ∷ (yes 3 ∷ yes 6 ∷ no 7 ∷ []) ∷ []

abbrev pub start_11_to_12 : List (List Literal)
start_11_to_12 = (no 1 ∷ []) ∷ (yes 7 ∷ []) ∷ []

abbrev pub next_11_to_20 : List (List Literal)
next_11_to_20 =
    (yes 8 ∷ no 9 ∷ []) ∷ (no 8 ∷ yes 9 ∷ []) ∷ (yes 10 ∷ []) ∷ (no 11 ∷ []) ∷ (no 9 ∷ no 12 ∷ []) ∷ (yes 9 ∷ yes 12 ∷ [])
    ∷ (yes 12 ∷ no 13 ∷ []) ∷ (no 11 ∷ no 12 ∷ yes 13 ∷ []) ∷ (no 13 ∷ yes 14 ∷ []) ∷ (yes 10 ∷ yes 13 ∷ no 14 ∷ []) ∷ []

abbrev pub step_21_to_26 : List (List Literal)
step_21_to_26 =
    (no 1 ∷ no 8 ∷ []) ∷ (yes 1 ∷ yes 8 ∷ []) ∷ (yes 4 ∷ no 6 ∷ yes 13 ∷ []) ∷ (no 5 ∷ yes 6 ∷ no 13 ∷ [])
    ∷ (yes 6 ∷ no 7 ∷ yes 14 ∷ []) ∷ (no 3 ∷ yes 7 ∷ no 14 ∷ []) ∷ []

-- what the definitions give is what was written by hand
pub record WorkedByHand : Type 0 where
  pub occur : ids often ≡ 0 ∷ 3 ∷ 10 ∷ 11 ∷ 12 ∷ 13 ∷ []
  pub frame_variables : frame_size often ≡ 7
  pub frames : base_clauses (frame often) ≡ now_1_to_10
  pub starts : base_clauses (start often) ≡ start_11_to_12
  pub next_frames : base_clauses (next_frame often) ≡ next_11_to_20
  pub steps : base_clauses (step often) ≡ step_21_to_26
  pub base : clauses_of often Base ≡ now_1_to_10 ++ start_11_to_12 ++ [] ∷ []
  pub keep : clauses_of often Keep ≡ now_1_to_10 ++ next_11_to_20 ++ step_21_to_26 ++ [] ∷ []
  pub cover : clauses_of often Cover ≡ now_1_to_10 ++ start_11_to_12 ++ [] ∷ []
  pub enter : clauses_of often (Enter 0) ≡ now_1_to_10 ++ start_11_to_12 ++ (no 7 ∷ []) ∷ []
  pub stay : clauses_of often (Stay 0) ≡ now_1_to_10 ++ next_11_to_20 ++ step_21_to_26 ++ (yes 7 ∷ []) ∷ (no 14 ∷ []) ∷ []
  pub fall_is : clauses_of often (Fall 0)
      ≡ now_1_to_10 ++ next_11_to_20 ++ step_21_to_26 ++ (yes 7 ∷ []) ∷ (yes 14 ∷ []) ∷ (yes 6 ∷ no 7 ∷ no 15 ∷ []) ∷ (yes 15 ∷ []) ∷ []
  pub fall_variables : variables_of often (Fall 0) ≡ 15

-- a part for the same claim with two rank bits, of which variable 2 is the greater, and two index bits, of which variable 4 is the greater
abbrev pub ranked : Part
ranked = record { start = 1; inv = 14; rank = 4 ∷ 6 ∷ []; index = 8 ∷ 10 ∷ [] }

-- `aag 4 1 1 1 1`, `2`, `4 6 1`, `8`, `6 5 2`: a latch that begins as 1, and a gate
abbrev pub holding : Circuit
holding = record {
  variables = 4;
  inputs = 2 ∷ [];
  latches = record { literal = 4; next = 6; reset = true } ∷ [];
  outputs = 8 ∷ [];
  gates = record { literal = 6; left = 5; right = 2 } ∷ [];
  input_names = None ∷ [];
  output_names = None ∷ [];
}

-- its nodes are `s0`, `s1`, `s2`, `s0 && s1`, `(s0 && s1) || s2` and `X` of that: variables 5 to 10; a latch is 11, a gate 12
abbrev pub mixed : Claim
mixed = record {
  side = Environment;
  circuit = holding;
  nodes = Signal 0 ∷ Signal 1 ∷ Signal 2 ∷ And (as_id 0) (as_id 1) ∷ Or (as_id 3) (as_id 2) ∷ Next (as_id 4) ∷ [];
  form = as_id 5;
  witness = record {
    latches = 25 ∷ [];
    gates = record { left = 22; right = 5 } ∷ [];
    always = 24;
    parts = record { start = 1; inv = 1; rank = []; index = [] } ∷ record { start = 4; inv = 24; rank = []; index = [] } ∷ [];
  };
}

-- rules of which the first example shows nothing
pub record RulesByHand : Type 0 where
  pub constants_vanish : made (0 ∷ 0 ∷ []) ≡ [] ∷ []
  pub true_ones_are_left_out : made (4 ∷ 1 ∷ []) ≡ []
  pub opposites_are_left_out : made (6 ∷ 2 ∷ 7 ∷ []) ≡ []
  pub each_once_and_rising : made (7 ∷ 0 ∷ 4 ∷ 7 ∷ []) ≡ (yes 2 ∷ no 3 ∷ []) ∷ []
  pub index_of_one : differs 1 (8 ∷ 10 ∷ []) ≡ 8 ∷ 11 ∷ []
  pub index_of_two : differs 2 (8 ∷ 10 ∷ []) ≡ 9 ∷ 10 ∷ []
  pub ranks_compared : base_clauses (fall often ranked)
      ≡ (yes 4 ∷ yes 5 ∷ yes 6 ∷ no 7 ∷ yes 11 ∷ yes 12 ∷ no 15 ∷ [])
      ∷ (no 3 ∷ yes 10 ∷ no 16 ∷ []) ∷ (yes 10 ∷ yes 15 ∷ no 16 ∷ []) ∷ (no 3 ∷ yes 15 ∷ no 16 ∷ [])
      ∷ (no 2 ∷ yes 9 ∷ no 17 ∷ []) ∷ (yes 9 ∷ yes 16 ∷ no 17 ∷ []) ∷ (no 2 ∷ yes 16 ∷ no 17 ∷ [])
      ∷ (yes 17 ∷ []) ∷ []
  pub environment_signals : signal_literals Environment holding ≡ 8 ∷ 2 ∷ []
  pub system_signals : signal_literals System holding ≡ 2 ∷ 8 ∷ []
  pub mixed_ids : ids mixed ≡ 0 ∷ 1 ∷ 2 ∷ 3 ∷ 4 ∷ 5 ∷ []
  pub mixed_frame : base_clauses (frame mixed)
      ≡ (no 2 ∷ no 3 ∷ []) ∷ (yes 1 ∷ no 3 ∷ []) ∷ (no 1 ∷ yes 2 ∷ yes 3 ∷ [])
      ∷ (yes 4 ∷ no 5 ∷ []) ∷ (no 4 ∷ yes 5 ∷ [])
      ∷ (yes 1 ∷ no 6 ∷ []) ∷ (no 1 ∷ yes 6 ∷ [])
      ∷ (no 7 ∷ [])
      ∷ (yes 5 ∷ no 8 ∷ []) ∷ (yes 6 ∷ no 8 ∷ []) ∷ (no 5 ∷ no 6 ∷ yes 8 ∷ [])
      ∷ (no 8 ∷ yes 9 ∷ []) ∷ (no 7 ∷ yes 9 ∷ []) ∷ (yes 7 ∷ yes 8 ∷ no 9 ∷ [])
      ∷ (yes 11 ∷ no 12 ∷ []) ∷ (no 2 ∷ no 12 ∷ []) ∷ (yes 2 ∷ no 11 ∷ yes 12 ∷ []) ∷ []
  pub mixed_start : base_clauses (start mixed) ≡ (yes 2 ∷ []) ∷ (no 11 ∷ []) ∷ (yes 10 ∷ []) ∷ []
  pub mixed_step : base_clauses (step mixed)
      ≡ (yes 3 ∷ no 14 ∷ []) ∷ (no 3 ∷ yes 14 ∷ [])
      ∷ (no 10 ∷ yes 21 ∷ []) ∷ (yes 10 ∷ no 21 ∷ [])
      ∷ (no 12 ∷ no 23 ∷ []) ∷ (yes 12 ∷ yes 23 ∷ []) ∷ []
  pub mixed_cover : base_clauses (own mixed Cover) ≡ (yes 12 ∷ []) ∷ [] ∷ (no 2 ∷ []) ∷ []
  pub mixed_stay : base_clauses (own mixed (Stay 1)) ≡ (yes 12 ∷ []) ∷ (yes 24 ∷ []) ∷ (yes 12 ∷ []) ∷ (no 24 ∷ []) ∷ []
