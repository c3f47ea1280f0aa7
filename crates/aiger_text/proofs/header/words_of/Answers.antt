use Rattle.std.proofs.Common.{◌++◌, ◌∷◌, [], List, ℕ, sym, ap, ◌∙◌}
use Rattle.std.specs.Prelude.{map}
use Rattle.std.proofs.lemmas.List.{append-nil}
use Rattle.aiger_text.specs.CircuitFile.{words_of}
use Rattle.aiger_text.proofs.Scanning.{cuts, no_cut, words_more}
use Rattle.aiger_text.proofs.header.words_of.Goals as goal

pub loop-word-preserved : goal.loop-word-preserved
loop-word-preserved c =
    rw c.in_ok-push.ensures.items
    (c.loop-word.invariant
    ∙ ap (λ (ws : List (List ℕ)). map (λ w. w.now) c.loop-word.words.items ++ ws) (cuts 32 c.loop-word.rest.now c.in-Some.word.now c.in-Some.behind.now (sym c.in-Some.ensures)).pieces
    ∙ words_more c.loop-word.words.items c.in-Some.word (words_of c.in-Some.behind.now))

pub returns : goal.returns
returns c =
    rw c.in_ok-push-2.ensures.items
    (sym (c.loop-word.invariant
    ∙ ap (λ (ws : List (List ℕ)). map (λ w. w.now) c.loop-word.words.items ++ ws) (no_cut 32 c.loop-word.rest.now (sym c.in_default.ensures))
    ∙ words_more c.loop-word.words.items c.loop-word.rest []
    ∙ append-nil (map (λ w. w.now) (c.loop-word.words.items ++ c.loop-word.rest ∷ []))))
