use Rattle.std.proofs.Common.{rules, map, ap, [], ◌≡◌, ◌∙◌, subst, sym, not, None}
use Rattle.tlsf_syntax.specs.Seen.{word_seen}
use Rattle.tlsf_reader.specs.Least.{least}
use Rattle.tlsf_reader.specs.Places.{NameTwiceAt}
use Rattle.tlsf_reader.proofs.NamesTwice.{TwiceAfter, among, with_name, here_twice, names_passing, names_done, first_names, keys_with, keys_among, here_found, nothing_here}
use Rattle.tlsf_reader.proofs.Repeats.{Keeps}
use Rattle.tlsf_reader.proofs.repeat.repeated_name.Goals.{then-not-branch, else-not-branch}
use Rattle.tlsf_reader.proofs.repeat.repeated_name.Goals as goal

pub loop-left-init : goal.loop-left-init
loop-left-init c =
    let empty : c.new-seen.result.keys ≡ [] = search rules in
    subst (λ ks. Keeps (NameTwiceAt (map (λ w. word_seen w.now) c.args.words.now)) (TwiceAfter (map (λ n. n.now) ks) (map (λ w. word_seen w.now) c.args.words.now)) None) (sym empty) (first_names (map (λ w. word_seen w.now) c.args.words.now))

pub loop-left-preserved : goal.loop-left-preserved
loop-left-preserved c =
    let keys : map (λ n. n.now) c.insert.new.self.keys ≡ with_name (map (λ n. n.now) c.loop-left.seen.keys) c.word-item.result.now.name = ap (map (λ n. n.now)) c.in_ok-insert.ensures.keys ∙ keys_with (λ n. n.now) _ c.loop-left.seen.keys in
    let added : c.in_ok-insert.field-0 ≡ not (among c.word-item.result.now.name (map (λ n. n.now) c.loop-left.seen.keys)) = c.in_ok-insert.ensures.added ∙ ap not (keys_among (λ n. n.now) c.word-item.result.now.name c.loop-left.seen.keys) in
    let next : c.if-not-branch.found ≡ least c.loop-left.found (here_twice (map (λ n. n.now) c.loop-left.seen.keys) (word_seen c.word-item.result.now)) = elim c.if-not-branch.branch [
      | then-not-branch w ↦ here_found (map (λ n. n.now) c.loop-left.seen.keys) (word_seen c.word-item.result.now) c.loop-left.found c.if-not-branch.found c.in_ok-insert.field-0 added w.if-not-branch.true (w.found-is ∙ w.least-found.ensures)
      | else-not-branch w ↦ nothing_here (map (λ n. n.now) c.loop-left.seen.keys) (word_seen c.word-item.result.now) c.loop-left.found c.if-not-branch.found c.in_ok-insert.field-0 added w.if-not-branch.false w.found-is
    ] in
    names_passing (NameTwiceAt (map (λ w. word_seen w.now) c.args.words.now)) (λ w. word_seen w.now) (map (λ n. n.now) c.loop-left.seen.keys) (map (λ n. n.now) c.insert.new.self.keys) c.loop-left.left.now c.word-item.result _ c.loop-left.found
    c.if-not-branch.found c.in-len1-up.len_at_least c.word-item.is keys next c.loop-left.invariant

pub returns : goal.returns
returns c = names_done (NameTwiceAt (map (λ w. word_seen w.now) c.args.words.now)) (λ w. word_seen w.now) (map (λ n. n.now) c.loop-left.seen.keys) c.loop-left.left.now c.loop-left.found c.in_default.len_below c.loop-left.invariant
