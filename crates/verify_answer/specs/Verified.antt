-- What a circuit of another maker owes to a text (this project's own; bounded synthesis of Finkbeiner and Schewe).
use Rattle.std.specs.Prelude.{◌≡◌, ℕ, List, Option, Some, length, map}
use Rattle.std.specs.List.{AllZip}
use Rattle.letters_and_lassos.specs.declared.kinds.Kind.{Kind}
use Rattle.letters_and_lassos.specs.declared.kinds.Side.{Side}
use Rattle.letters_and_lassos.specs.declared.kinds.Side.TheVariants.{System, Environment}
use Rattle.aiger_text.specs.Circuit.{Circuit, RunsOnEveryInput}
use Rattle.aiger_text.specs.CircuitFile.{File}
use Rattle.circuit_names.specs.Names.{IsNameIfAny}
use Rattle.satisfaction.specs.Wanted.{Wanted}
use Rattle.satisfaction.specs.Satisfaction.{CircuitDefeats, CircuitSatisfies}
use Rattle.document_check.specs.Facts.{Facts}
use Rattle.annot_check.specs.Pairs.{Listed}
use Rattle.text_ground.specs.Ground.{IsWantedBy}
use Rattle.tlsf_expand.specs.FlatText.{FlatText}
use Rattle.solve_ground.specs.Taken.{IsTakenAs}
use Rattle.named_annotation.specs.NamedStates.{Named}
use Rattle.circuit_check.specs.Duty.{Owed}
use Rattle.circuit_check.specs.FirstBad as circuits
use Rattle.verify_answer.specs.FirstBad.{Annotates, IsValidFor}

-- the circuit has the inputs and outputs that are wanted, in their order; where it names one, it does so as they are named
pub record HasSignals (inputs outputs : List (List ℕ)) (c : Circuit) : Type 0 where
  pub input_count : length c.inputs ≡ length inputs
  pub output_count : length c.outputs ≡ length outputs
  pub input_names : AllZip IsNameIfAny c.input_names inputs
  pub output_names : AllZip IsNameIfAny c.output_names outputs

-- the circuit with each name as it is wanted
abbrev pub named_as : List (List ℕ) → List (List ℕ) → Circuit → Circuit
named_as inputs outputs c = record c { input_names = map (λ name. Some name) inputs; output_names = map (λ name. Some name) outputs }

-- The circuit satisfies what is wanted, its inputs and outputs being those that are wanted, by their places: it is of the kind, and on
-- each of its run lassos what is wanted is true. It has one on each lasso of input letters.
pub record IsSatisfying (x : Wanted) (c : Circuit) : Type 0 where
  pub signals : HasSignals x.inputs x.outputs c
  pub satisfies : CircuitSatisfies x (named_as x.inputs x.outputs c)
  pub runs : RunsOnEveryInput System c

-- The circuit of the environment defeats every machine, its inputs being the outputs that are wanted and its outputs the inputs, by
-- their places: it is of the other kind; each machine of the system, of any size, has a play with it, and on each such play what is wanted
-- is false. It has a run lasso on each lasso of output letters.
pub record IsDefeating (x : Wanted) (c : Circuit) : Type 0 where
  pub signals : HasSignals x.outputs x.inputs c
  pub defeats : CircuitDefeats x (named_as x.outputs x.inputs c)
  pub runs : RunsOnEveryInput Environment c

-- what a circuit of a side owes to what is wanted
abbrev pub DoesItsPart : Side → Wanted → Circuit → Type 0
DoesItsPart System x c = IsSatisfying x c
DoesItsPart Environment x c = IsDefeating x c

-- The file has an annotation for the text that is valid for its circuit, so the circuit satisfies what the text wants, with the kind
-- that is given, or else that the text names.
pub record IsVerified (text : List ℕ) (given : Option Kind) (bytes : List ℕ) (facts : Facts) : Type 0 where
  pub file : File
  pub list : Listed
  pub annotates : Annotates facts bytes file list
  pub valid : IsValidFor facts file list
  pub wanted : Wanted
  pub is_wanted : IsWantedBy text given wanted
  pub satisfying : IsSatisfying wanted file.circuit

-- The file has an annotation over named states for the text that is valid for its circuit, which plays the side, so the circuit does what
-- it owes to what the text wants, by the meaning of the text as it is written (of a converted one, of the shifted word).
pub record IsVerifiedFor (side : Side) (text : List ℕ) (given : Option Kind) (bytes : List ℕ) (owed : Owed) : Type 0 where
  pub file : File
  pub named : Named
  pub annotates : circuits.Annotates owed bytes file named
  pub valid : circuits.IsValidFor owed file named
  pub flat : FlatText
  pub wanted : Wanted
  pub taken : IsTakenAs text given flat wanted
  pub does : DoesItsPart side wanted file.circuit
