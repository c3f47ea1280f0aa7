-- The outcome of a search of a text's problems.
use Rattle.std.proofs.Common.{◌≡◌, ◌≤◌, List, Option, Some, None, length, sym, ◌∙◌, subst, arith}
use Rattle.letters_and_lassos.specs.declared.kinds.Side.{Side}
use Rattle.letters_and_lassos.specs.declared.kinds.Side.TheVariants.{System, Environment}
use Rattle.machine_model.specs.Machine.{MachineModel}
use Rattle.machine_model.specs.Problem.{reads_of, writes_of}
use Rattle.machine_model.specs.declared.problems.Problem.{Problem}
use Rattle.machine_model.specs.declared.counting.Counts.{Counts}
use Rattle.annotation_encode.specs.Count.{SizesRise}
use Rattle.circuit_names.specs.Names.{read_names, written_names}
use Rattle.tlsf_expand.specs.Expansion.{Expanded}
use Rattle.spec_problems.specs.declared.sides.SideProblems.{SideProblems}
use Rattle.synth_engine.specs.declared.settings.Settings.{Settings}
use Rattle.size_search.specs.declared.size_log.SizeLog.{SizeLog}
use Rattle.synth_engine.specs.declared.outcomes.Found.{Found}
use Rattle.synth_engine.specs.Outcomes.{GoesWith, IsFound, IsFoundWith}
use Rattle.synth_answer.specs.Holds.{text_names}
use Rattle.synth_answer.specs.Reply.{FitsNames, FoundFits}
use Rattle.text_ground.specs.Problems.{AreProblemsFor, IsProblemFor}
use Rattle.text_ground.proofs.Meaning.{kind_for, reads_environment, reads_system, writes_environment, writes_system}
use Rattle.synth_answer.proofs.Sides.{IsOf, find}
use Rattle.synth_answer.proofs.Sizes.{few_reads, few_writes}

module _ (counts : Counts) (x : Expanded) (s : SideProblems) (problems : AreProblemsFor counts x s) (settings : Settings) (most : settings.max ≤ 8) (sizes : SizesRise) where
  problem_for : (side : Side) (p : Problem) → IsOf s.system s.environment side p → IsProblemFor counts x side (kind_for side x.kind) p
  problem_for System p of = subst (IsProblemFor counts x System x.kind) of problems.of_system
  problem_for Environment p of = problems.of_environment p of

  reads_for : (side : Side) (p : Problem) → p.side ≡ side → p.inputs ≡ length x.inputs → p.outputs ≡ length x.outputs → reads_of p ≡ length (read_names (text_names x) side)
  reads_for System p side i o = reads_system p side ∙ i
  reads_for Environment p side i o = reads_environment p side ∙ o

  writes_for : (side : Side) (p : Problem) → p.side ≡ side → p.inputs ≡ length x.inputs → p.outputs ≡ length x.outputs → writes_of p ≡ length (written_names (text_names x) side)
  writes_for System p side i o = writes_system p side ∙ o
  writes_for Environment p side i o = writes_environment p side ∙ i

  one_fits : (side : Side) (p : Problem) (m : MachineModel) → IsOf s.system s.environment side p → IsFound p settings m → FitsNames x side m
  one_fits side p m of found =
      let known = problem_for side p of in
      let allowed = found.allowed in
      let all = (sizes.allowed p settings.max).within in
      let looked_for = found.accepted.looked_for in
      record {
        small = record {
          states = omega (arith, allowed, all, most);
          reads = subst (λ n. n ≤ 8) (sym looked_for.reads) (few_reads p side known.of_side known.within);
          writes = subst (λ n. n ≤ 8) (sym looked_for.writes) (few_writes p side known.of_side known.within);
        };
        reads = looked_for.reads ∙ reads_for side p known.of_side known.inputs known.outputs;
        writes = looked_for.writes ∙ writes_for side p known.of_side known.inputs known.outputs;
      }

  pub found_fits : (found : Option Found) (logs : List SizeLog) → GoesWith s.system s.environment settings logs found → FoundFits x found
  found_fits None logs goes = tt
  found_fits (Some f) logs goes =
      let there = find s.system s.environment f.side (λ p. IsFoundWith p settings f.machine logs) goes in
      one_fits f.side there.problem f.machine there.of there.holds.found
