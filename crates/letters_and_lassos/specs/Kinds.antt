use Rattle.std.specs.Prelude.{ℕ, List, codes}
use Rattle.letters_and_lassos.specs.declared.kinds.Kind.{Kind}
use Rattle.letters_and_lassos.specs.declared.kinds.Kind.TheVariants.{Mealy, Moore}

-- the kind of the machines that play against machines of this kind: who writes by the letter just read plays against one
-- who writes before it reads (the duality of Mealy and Moore machines)
abbrev pub other_kind : Kind → Kind
other_kind Mealy = Moore
other_kind Moore = Mealy

-- the word of a kind in texts and documents
abbrev pub kind_word : Kind → List ℕ
kind_word Mealy = codes "Mealy"
kind_word Moore = codes "Moore"
