use Rattle.std.proofs.Common.{◌≡◌, ◌++◌, ◌∷◌, [], true, false, ap, arith, rules}
use Rattle.tlsf_syntax.specs.declared.spec.Member.{Member}
use Rattle.tlsf_syntax.specs.Tree as plain
use Rattle.tlsf_syntax.specs.TextReading.{begins_member}
use Rattle.tlsf_syntax.specs.Seen.{member_seen, pattern_seen}
use Rattle.tlsf_reader.proofs.Descending.{read_stop, read_expected, read_unexpected, builds_more}
use Rattle.tlsf_reader.proofs.Climbing.{read_exit}
use Rattle.tlsf_reader.proofs.TextDescending.{list_ended, list_stopped}
use Rattle.tlsf_reader.proofs.EnumerationDescending.{read_members, member_read, members_more, members_last}
use Rattle.tlsf_reader.specs.TextView.{each}
use Rattle.tlsf_reader.proofs.enumeration.members.Goals as goal

pub returns-in_err-name-clause-read : goal.returns-in_err-name-clause-read
returns-in_err-name-clause-read c = read_exit _ c.from_residual.ensures.1 (list_stopped {rest = []} c.loop-members.invariant.builds (read_members {view = each member_seen} c.loop-members.ahead (read_unexpected _ c.in_err-name.ensures.next)))

pub returns-in_err-expect-clause-read : goal.returns-in_err-expect-clause-read
returns-in_err-expect-clause-read c =
    read_exit _ c.from_residual-in_err-expect.ensures.1
    (list_stopped {rest = []} c.loop-members.invariant.builds (read_members {view = each member_seen} c.loop-members.ahead (read_expected _ c.in_ok-name.ensures.next (read_unexpected _ c.in_err-expect.ensures.next))))

pub returns-in_err-values-clause-read : goal.returns-in_err-values-clause-read
returns-in_err-values-clause-read c =
    read_exit _ c.from_residual-in_err-values.ensures.1
    (list_stopped {rest = []} c.loop-members.invariant.builds (read_members {view = each member_seen} c.loop-members.ahead
    (read_expected _ c.in_ok-name.ensures.next (read_expected _ c.in_ok-expect.ensures.next (read_stop _ c.in_err-values.ensures.read)))))

pub loop-members-preserved : goal.loop-members-preserved
loop-members-preserved c =
    let m : Member = record { word = c.in_ok-word.word; values = c.in_ok-values.values } in
    let pushed : c.push.new.self.items ≡ c.loop-members.members.items ++ m ∷ [] = search rules in
    let more : begins_member c.patterns.new.ahead ≡ true = search rules in
    record {
      builds = builds_more c.push.new.self.items pushed c.loop-members.invariant.builds
          (members_more (member_read (member_seen m) c.in_ok-name.ensures.next c.in_ok-expect.ensures.next c.in_ok-values.ensures.read (ap (λ (x : plain.Named). record { word = x; values = (each pattern_seen) c.in_ok-values.values }) c.in_ok-word.ensures)) more);
      shorter = omega (arith, c.in_ok-name.ensures.shorter, c.in_ok-expect.ensures.shorter, c.in_ok-values.ensures.shorter, c.loop-members.invariant.shorter);
    }

pub returns-then-not-begins_member-clause-read : goal.returns-then-not-begins_member-clause-read
returns-then-not-begins_member-clause-read c =
    let m : Member = record { word = c.in_ok-word.word; values = c.in_ok-values.values } in
    let pushed : c.push.new.self.items ≡ c.loop-members.members.items ++ m ∷ [] = search rules in
    let last : begins_member c.patterns.new.ahead ≡ false = search rules in
    list_ended pushed c.loop-members.invariant.builds
    (members_last member_seen m
    (member_read (member_seen m) c.in_ok-name.ensures.next c.in_ok-expect.ensures.next c.in_ok-values.ensures.read (ap (λ (x : plain.Named). record { word = x; values = (each pattern_seen) c.in_ok-values.values }) c.in_ok-word.ensures)) last)
