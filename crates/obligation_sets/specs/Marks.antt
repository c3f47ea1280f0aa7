use Rattle.std.specs.Prelude.{Bool, List, map}
use Rattle.obligation_sets.specs.declared.branches.Mark.{Mark}

-- the flags that a table of marks has (this project's own)

-- of the formulas that were taken off the work list
abbrev pub done_of : List Mark → List Bool
done_of marks = map (λ mark. mark.done) marks

-- of the formulas that are left to the next position
abbrev pub next_of : List Mark → List Bool
next_of marks = map (λ mark. mark.next) marks

-- of the untils that are put off
abbrev pub postponed_of : List Mark → List Bool
postponed_of marks = map (λ mark. mark.postponed) marks
