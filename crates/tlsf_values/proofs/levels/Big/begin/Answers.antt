use Rattle.std.proofs.Common.{rules, ◌≡◌, length, reverse, ◌∷◌, ap, ◌∙◌, ◌*◌, suc, to_z, of_z, w64}
use Rattle.std.proofs.lemmas.List.{reverse-append}
use Rattle.tlsf_values.proofs.LevelLemmas.{level_less, level_more, level_step}
use Rattle.tlsf_values.specs.LevelsSeen.{after, pending, turns}
use Rattle.tlsf_values.specs.MembersSeen.{members_seen}
use Rattle.tlsf_values.specs.declared.value.Value.TheVariants.{Number}
use Rattle.tlsf_syntax.specs.Seen.{word_seen}
use Rattle.tlsf_values.proofs.levels.Big.begin.Goals as goal

pub returns-in_default-clause-less : goal.returns-in_default-clause-less
returns-in_default-clause-less c = λ ranges. level_more (length (members_seen c.args.level.members) * suc (turns (length c.args.level.inner.now))) (pending (reverse c.args.levels.now.items))

pub returns-clause-value : goal.returns-clause-value
returns-clause-value c = λ r ranges w.
    let items = ap reverse c.in_ok-push.ensures.items ∙ reverse-append c.args.levels.now.items _ in
    let same : to_z w64 (of_z w64 c.in-Some.number) ≡ c.in-Some.number = search rules in
    let seen = c.in_ok-push_number.ensures ∙ ap (λ z. record { name = c.args.level.word.now.name; value = Number z } ∷ c.args.bound.now) same in
    rw (items, seen) (level_step r c.args.self.now c.args.bound.now (word_seen c.args.level.word.now) c.args.level.inner.now (members_seen c.args.level.members) (members_seen c.next.new.self) c.in-Some.number c.args.level.so_far w
    (λ x w. after r c.args.self.now c.args.bound.now (reverse c.args.levels.now.items) x w) c.in-Some.ensures)

pub returns-clause-less : goal.returns-clause-less
returns-clause-less c = λ ranges.
    let items = ap reverse c.in_ok-push.ensures.items ∙ reverse-append c.args.levels.now.items _ in
    rw items (level_less c.args.level.inner.now (members_seen c.args.level.members) (members_seen c.next.new.self) c.in-Some.number (pending (reverse c.args.levels.now.items)) c.in-Some.ensures)
