use Rattle.std.proofs.Common.{rules, ◌≡◌, ◌<◌, ◌≤◌, ◌+◌, ◌-◌, ℕ, length, map, take, unwrap_or, refl, sym, ◌∙◌, ap, Err}
use Rattle.std.proofs.lemmas.List.{length-take-le}
use Rattle.tlsf_syntax.specs.Texts.{DerivesText, IsFirstUnexpected}
use Rattle.tlsf_reader.specs.Seen.{seen}
use Rattle.tlsf_reader.specs.TextView.{written_view}
use Rattle.tlsf_reader.specs.Known.{refused_fault, place_in}
use Rattle.tlsf_reader.specs.Faults.{most_bytes}
use Rattle.tlsf_reader.proofs.ReadingTexts.{Found, cut_within, known_refuses, front_refuses, tree_read, fault_read, told, too_long_told}
use Rattle.tlsf_reader.proofs.reading.read.Goals.{After-unwrap_or-cut, In-Ok}
use Rattle.tlsf_reader.proofs.reading.read.Goals as goal

pub returns-then-text-gt-MOST_BYTES-clause-fault : goal.returns-then-text-gt-MOST_BYTES-clause-fault
returns-then-text-gt-MOST_BYTES-clause-fault c = let long : most_bytes < length c.args.text.now = search rules in too_long_told c.args.text.now long

pub slice_bounds-whole_text-end : goal.slice_bounds-whole_text-end
slice_bounds-whole_text-end c =
    let cut : c.unwrap_or-cut.result ≡ unwrap_or c.in_ok-deep.deep (length c.in_ok-lexed.lexed.lexemes.items) = search rules in
    sym (length-take-le c.unwrap_or-cut.result c.deref-2.result.now (rw c.deref-2.ensures.value (cut_within c.in_ok-lexed.lexed.lexemes.items c.in_ok-deep.deep c.unwrap_or-cut.result (rw c.deref.ensures.value at c.in_ok-deep.ensures) cut)))

-- what is known before the descent
found : (c : After-unwrap_or-cut) → Found c.args.text.now c.in_ok-lexed.lexed.stop c.in_ok-lexed.lexed.stop_at c.in_ok-lexed.lexed.lexemes.items c.in_ok-deep.deep c.known_fault-known.result c.unwrap_or-cut.result
found c =
    let short : length c.args.text.now ≤ most_bytes = search rules in
    let cut : c.unwrap_or-cut.result ≡ unwrap_or c.in_ok-deep.deep (length c.in_ok-lexed.lexed.lexemes.items) = search rules in
    record { is = c.in_ok-lexed.ensures; short = short; deep_is = rw c.deref.ensures.value at c.in_ok-deep.ensures; known_is = c.known_fault-known.ensures; cut_is = cut }

-- what the descent derived
derived : (c : In-Ok) → DerivesText (map seen (take c.unwrap_or-cut.result c.in_ok-lexed.lexed.lexemes.items)) (written_view c.in-Ok.written)
derived c = rw c.deref-2.ensures.value at c.in-Ok.ensures.ok c.in-Ok.written refl

pub returns-in-Some-clause-fault : goal.returns-in-Some-clause-fault
returns-in-Some-clause-fault c =
    let at = goal.at.returns-in-Some-clause-fault c in
    told c.args.text.now c.in-Some.fault c.from.result (known_refuses (found at.After-unwrap_or-cut) (written_view c.in-Ok.written) c.in-Some.fault (derived at.In-Ok) c.in-Some.is) c.from.ensures

pub returns-in-Ok-clause-tree : goal.returns-in-Ok-clause-tree
returns-in-Ok-clause-tree c =
    let at = goal.at.returns-in-Ok-clause-tree c in
    tree_read (found at.After-unwrap_or-cut) (written_view c.in-Ok.written) c.accepted.result (derived at.In-Ok) c.in-None.is (rw c.deref-in-None.ensures.value at c.accepted.ensures)

pub returns-in-Ok-clause-fault : goal.returns-in-Ok-clause-fault
returns-in-Ok-clause-fault c =
    let at = goal.at.returns-in-Ok-clause-fault c in
    fault_read (found at.After-unwrap_or-cut) (written_view c.in-Ok.written) c.accepted.result (derived at.In-Ok) c.in-None.is (rw c.deref-in-None.ensures.value at c.accepted.ensures)

pub returns-clause-fault : goal.returns-clause-fault
returns-clause-fault c =
    let before = found (goal.at.returns-clause-fault c).After-unwrap_or-cut in
    let left = c.in-Err-At.left in
    let stop : (n : ℕ) × (n + left ≡ length (map seen (take c.unwrap_or-cut.result c.in_ok-lexed.lexed.lexemes.items))) × IsFirstUnexpected (map seen (take c.unwrap_or-cut.result c.in_ok-lexed.lexed.lexemes.items)) n =
    rw c.deref-2.ensures.value at c.in-Err-At.ensures.err left (ap Err c.in-Err-At.field-0-is)
    in
    told c.args.text.now c.refused-fault.result c.from-in-Err-At.result
    (front_refuses before stop.0 left (c.unwrap_or-cut.result - left) c.refused-fault.result stop.1 stop.2 refl (c.refused-fault.ensures ∙ ap (refused_fault c.known_fault-known.result) c.place_of.ensures ∙ ap (λ k. refused_fault c.known_fault-known.result (place_in (map seen c.in_ok-lexed.lexed.lexemes.items) c.in_ok-lexed.lexed.stop_at (c.unwrap_or-cut.result - k))) c.in-Err-At.left-is))
    c.from-in-Err-At.ensures
