use Rattle.std.proofs.Common.{◌≡◌, ◌++◌, ◌∷◌, [], arith, rules}
use Rattle.tlsf_reader.proofs.Descending.{builds_more}
use Rattle.tlsf_reader.proofs.Climbing.{read_exit}
use Rattle.tlsf_reader.proofs.TextDescending.{list_ended, list_stopped}
use Rattle.tlsf_reader.proofs.EnumerationDescending.{patterns_more, patterns_last, patterns_refused}
use Rattle.tlsf_syntax.specs.Seen.{pattern_seen}
use Rattle.tlsf_reader.specs.TextView.{each}
use Rattle.tlsf_reader.proofs.enumeration.patterns.Goals as goal

pub returns-in_err-pattern-clause-read : goal.returns-in_err-pattern-clause-read
returns-in_err-pattern-clause-read c = read_exit _ c.from_residual.ensures.1 (list_stopped {rest = []} c.loop-patterns.invariant.builds (patterns_refused {seen_as = each pattern_seen} c.in_err-pattern.ensures.read))

pub loop-patterns-preserved : goal.loop-patterns-preserved
loop-patterns-preserved c =
    let pushed : c.push.new.self.items ≡ c.loop-patterns.patterns.items ++ c.in_ok-pattern.pattern ∷ [] = search rules in
    record {
      builds = builds_more c.push.new.self.items pushed c.loop-patterns.invariant.builds (patterns_more c.in_ok-pattern.ensures.read c.in-Some.ensures.next);
      shorter = omega (arith, c.in_ok-pattern.ensures.shorter, c.in-Some.ensures.shorter, c.loop-patterns.invariant.shorter);
    }

pub returns-in_default-clause-read : goal.returns-in_default-clause-read
returns-in_default-clause-read c =
    let pushed : c.push.new.self.items ≡ c.loop-patterns.patterns.items ++ c.in_ok-pattern.pattern ∷ [] = search rules in
    list_ended pushed c.loop-patterns.invariant.builds (patterns_last c.in_ok-pattern.ensures.read c.in_default.ensures.next)
