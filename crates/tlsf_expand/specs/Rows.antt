-- Worked rows: texts with their flat sections, their first faults or their meaning, written out by hand.
use Rattle.std.specs.Prelude.{◌≡◌, ℕ, ◌-◌, ◌^◌, Bool, true, false, List, [], ◌∷◌, Option, None, Some, pos, negsuc, codes}
use Rattle.text_limits.specs.declared.TheConstants.{SMALL_LIMITS}
use Rattle.letters_and_lassos.specs.Word.{Word}
use Rattle.letters_and_lassos.specs.declared.kinds.Kind.TheVariants.{Mealy, Moore}
use Rattle.ltl_formula.specs.declared.nodes.Node.{Node}
use Rattle.ltl_formula.specs.declared.nodes.Node.TheVariants as node
use Rattle.spec_faults.specs.declared.code.SpecCode.{SpecCode}
use Rattle.spec_faults.specs.declared.code.SpecCode.TheVariants as code
use Rattle.tlsf_syntax.specs.declared.expr.Op.TheVariants as op
use Rattle.tlsf_syntax.specs.Tree.{Tree, number, named, pair, prefix, truth, Definition, enumeration, Pattern, Declaration, single, bus, typed}
use Rattle.tlsf_values.specs.Outcomes.{gives}
use Rattle.tlsf_values.specs.Rows.{from, word, id}
use Rattle.tlsf_syntax.specs.Text.{Info, Text}
use Rattle.tlsf_expand.specs.Signals.{bit_name}
use Rattle.tlsf_expand.specs.Expansion.{expanded, Fault, flat_fault}
use Rattle.tlsf_expand.specs.Meaning.{means}

abbrev pub fault : SpecCode → ℕ → Option Fault
fault c k = Some (record { code = c; place = k })

-- ---- texts

-- of kind Mealy
abbrev pub info_of : Bool → Info
info_of strict = record { title = []; description = []; tags = []; semantics = Mealy; strict = strict; target = Mealy; target_at = 60 }

-- what the text guarantees
abbrev pub guarantees : List Definition → List Declaration → List Declaration → List Tree → Text
guarantees definitions inputs outputs formulas = record {
  info = info_of false;
  definitions = definitions;
  inputs = inputs;
  outputs = outputs;
  sections = record { initially = []; preset = []; require = []; assert = []; assume = []; guarantee = formulas };
}

abbrev pub one_signal : List ℕ → ℕ → Declaration
one_signal name k = record { word = word name k; shape = single }

-- `INPUTS { r[n]; } OUTPUTS { }`, the width at byte 86
abbrev pub of_width : Tree → Text
of_width t = guarantees [] (record { word = word (codes "r") 84; shape = bus t } ∷ []) [] []

abbrev pub pattern : ℕ → List (Option Bool) → Pattern
pattern k bits = record { bits = bits; span = from k }

-- `enum T = A: 00, 01 B: 1*`
abbrev pub two_members : Definition
two_members = enumeration (word (codes "T") 10)
    (record { word = word (codes "A") 14; values = pattern 17 (Some false ∷ Some false ∷ []) ∷ pattern 21 (Some false ∷ Some true ∷ []) ∷ [] }
    ∷ record { word = word (codes "B") 24; values = pattern 27 (Some true ∷ None ∷ []) ∷ [] } ∷ [])

-- `enum T = A: 00 B: 1`
abbrev pub uneven : Definition
uneven = enumeration (word (codes "T") 10)
    (record { word = word (codes "A") 14; values = pattern 17 (Some false ∷ Some false ∷ []) ∷ [] }
    ∷ record { word = word (codes "B") 20; values = pattern 23 (Some true ∷ []) ∷ [] } ∷ [])

-- `INPUTS { T t; } OUTPUTS { g; } GUARANTEE { g <-> t == B; }`
abbrev pub is_b : List Definition → Text
is_b definitions = guarantees definitions (record { word = word (codes "t") 86; shape = typed (word (codes "T") 84) } ∷ []) (one_signal (codes "g") 101 ∷ [])
    (pair (from 120) op.Equiv (named (from 120) (codes "g")) (pair (from 126) op.Equal (named (from 126) (codes "t")) (named (from 131) (codes "B"))) ∷ [])

-- `INPUTS { r; } OUTPUTS { h; } ASSERT { r; } ASSUME { F h; }`
abbrev pub lazy : Bool → Text
lazy strict = record {
  info = info_of strict;
  definitions = [];
  inputs = one_signal (codes "r") 84 ∷ [];
  outputs = one_signal (codes "h") 99 ∷ [];
  sections = record {
    initially = [];
    preset = [];
    require = [];
    assert = named (from 113) (codes "r") ∷ [];
    assume = prefix (from 127) op.Finally (named (from 129) (codes "h")) ∷ [];
    guarantee = [];
  };
}

-- the ring of one letter without signals
abbrev pub silence : Word
silence = record { stem = []; ring = record { 0 = 0 } ∷ [] }

-- the nodes of `is_b` in their order: the guarantee `g <-> t[0]`, the formula added for `t`, and the whole
abbrev pub nodes_of_b : List Node
nodes_of_b =
    node.Signal 2 ∷ node.Signal 0 ∷ node.Equiv (id 0) (id 1)
    ∷ node.Not (id 1) ∷ node.Signal 1 ∷ node.Not (id 4) ∷ node.And (id 3) (id 5) ∷ node.And (id 3) (id 4) ∷ node.Or (id 6) (id 7) ∷ node.Or (id 8) (id 1)
    ∷ node.True ∷ node.Globally (id 9) ∷ node.And (id 11) (id 10) ∷ node.Globally (id 10) ∷ node.And (id 13) (id 2) ∷ node.Implies (id 12) (id 14)
    ∷ node.And (id 10) (id 15) ∷ node.Implies (id 10) (id 16) ∷ []

pub record RowsExpand : Type 0 where
  pub one_of_a_type : expanded SMALL_LIMITS (is_b (two_members ∷ [])) None ≡ gives (record {
    inputs = bit_name (codes "t") 0 ∷ bit_name (codes "t") 1 ∷ [];
    outputs = codes "g" ∷ [];
    kind = Mealy;
    strict = false;
    sections = record { initially = []; preset = []; require = id 9 ∷ []; assert = []; assume = []; guarantee = id 2 ∷ [] };
    whole = id 17;
  })
      (record { limits = SMALL_LIMITS; done = 5; formulas = nodes_of_b })
  pub uneven_values : flat_fault SMALL_LIMITS (is_b (uneven ∷ [])) None ≡ fault code.WrongSort 23
  pub unknown_type : flat_fault SMALL_LIMITS (is_b []) None ≡ fault code.UnknownName 84
  pub too_wide : flat_fault SMALL_LIMITS (of_width (number (from 86) (Some (pos 9)))) None ≡ fault code.TooManySignals 84
  pub huge_width : flat_fault SMALL_LIMITS (of_width (number (from 86) (Some (pos (2 ^ 63 - 1))))) None ≡ fault code.TooManySignals 84
  pub negative_width : flat_fault SMALL_LIMITS (of_width (number (from 86) (Some (negsuc 0)))) None ≡ fault code.NumberRange 86
  pub truth_as_width : flat_fault SMALL_LIMITS (of_width (truth (from 86) true)) None ≡ fault code.WrongSort 86
  pub own_name_in_width : flat_fault SMALL_LIMITS (of_width (named (from 86) (codes "r"))) None ≡ fault code.UnknownName 86
  pub no_formula : flat_fault SMALL_LIMITS (guarantees [] [] [] (number (from 110) (Some (pos 1)) ∷ [])) None ≡ fault code.WrongSort 110
  pub other_target : flat_fault SMALL_LIMITS (record (lazy false) { info = record (info_of false) { semantics = Moore } }) None ≡ fault code.TargetDiffers 60
  pub given_kind : flat_fault SMALL_LIMITS (record (lazy false) { info = record (info_of false) { semantics = Moore } }) (Some Mealy) ≡ None
  pub standard_meaning : means SMALL_LIMITS silence (lazy false) ≡ true
  pub strict_meaning : means SMALL_LIMITS silence (lazy true) ≡ false
