use Rattle.std.proofs.Common.{◌≡◌, ◌++◌, ◌∷◌, [], arith, rules}
use Rattle.tlsf_syntax.specs.Seen.{word_seen}
use Rattle.tlsf_reader.proofs.Descending.{builds_more}
use Rattle.tlsf_reader.proofs.Climbing.{read_exit}
use Rattle.tlsf_reader.proofs.TextDescending.{list_ended, list_stopped}
use Rattle.tlsf_reader.proofs.InfoDescending.{names_more, names_last, names_refused}
use Rattle.tlsf_reader.specs.TextView.{each}
use Rattle.tlsf_reader.proofs.info.names.Goals as goal

pub returns-in_err-name-clause-read : goal.returns-in_err-name-clause-read
returns-in_err-name-clause-read c = read_exit _ c.from_residual.ensures.1 (list_stopped {rest = []} c.loop-names.invariant.builds (names_refused {view = each word_seen} c.in_err-name.ensures.next))

pub loop-names-preserved : goal.loop-names-preserved
loop-names-preserved c =
    let pushed : c.push.new.self.items ≡ c.loop-names.names.items ++ c.in_ok-word.word ∷ [] = search rules in
    record {
      builds = builds_more c.push.new.self.items pushed c.loop-names.invariant.builds (names_more c.in_ok-name.ensures.next c.in-Some.ensures.next c.in_ok-word.ensures);
      shorter = omega (arith, c.in_ok-name.ensures.shorter, c.in-Some.ensures.shorter, c.loop-names.invariant.shorter);
    }

pub returns-in_default-clause-read : goal.returns-in_default-clause-read
returns-in_default-clause-read c =
    let pushed : c.push.new.self.items ≡ c.loop-names.names.items ++ c.in_ok-word.word ∷ [] = search rules in
    list_ended pushed c.loop-names.invariant.builds (names_last word_seen c.in_ok-word.word c.in_ok-name.ensures.next c.in_default.ensures.next c.in_ok-word.ensures)
