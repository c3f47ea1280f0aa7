use Rattle.std.proofs.Common.{◌≡◌, ◌≤◌, ℕ, List, ap, sym, subst, ◌∙◌}
use Rattle.input_output.specs.Faults.{count_of}
use Rattle.input_output.proofs.file_shelf.FileShelfShelf.take.Goals as goal

-- closing leaves the counts as the part left them
as_before : (part closed : List (List ℕ)) (other : List ℕ) (n : ℕ) → closed ≡ part → count_of part other ≡ n → count_of closed other ≡ n
as_before part closed other n same counted = ap (λ names. count_of names other) same ∙ counted

not_below : (part closed : List (List ℕ)) (any : List ℕ) (n : ℕ) → closed ≡ part → n ≤ count_of part any → n ≤ count_of closed any
not_below part closed any n same risen =
    let P : List (List ℕ) → Type 0 = λ names. n ≤ count_of names any in subst P (sym same) risen

pub returns-then-count-limit-clause-others : goal.returns-then-count-limit-clause-others
returns-then-count-limit-clause-others g c other differ = as_before _ _ other _ c.close.ensures.same (c.part.ensures.others other differ)

pub returns-then-count-limit-clause-never_falls : goal.returns-then-count-limit-clause-never_falls
returns-then-count-limit-clause-never_falls g c any = not_below _ _ any _ c.close.ensures.same (c.part.ensures.never_falls any)

pub returns-clause-others : goal.returns-clause-others
returns-clause-others g c other differ = as_before _ _ other _ c.close.ensures.same (c.part.ensures.others other differ)

pub returns-clause-never_falls : goal.returns-clause-never_falls
returns-clause-never_falls g c any = not_below _ _ any _ c.close.ensures.same (c.part.ensures.never_falls any)
