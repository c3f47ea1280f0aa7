-- A whole text as a plain value: its parts, each in one place, and one thing for each of the six sections.
use Rattle.std.specs.Prelude.{ℕ, Bool, List, []}
use Rattle.std.specs.declared.alloc.Global.{Global}
use Rattle.std.specs.declared.vec.Vec.{Vec}
use Rattle.letters_and_lassos.specs.declared.kinds.Kind.{Kind}
use Rattle.tlsf_syntax.specs.declared.sections.Sections.{Sections}
use Rattle.tlsf_syntax.specs.Tree.{Named, Tree, Definition, Declaration}

-- the part INFO
pub record Info : Type 0 where
  pub title : List ℕ
  pub description : List ℕ
  pub tags : List Named
  pub semantics : Kind
  pub strict : Bool
  pub target : Kind
  -- the first byte of TARGET's value
  pub target_at : ℕ

-- a text: the definitions in the order written, and the formulas of each section
pub record Text : Type 0 where
  pub info : Info
  pub definitions : List Definition
  pub inputs : List Declaration
  pub outputs : List Declaration
  pub sections : Sections (List Tree)

-- what a function gives of each section
abbrev pub each_section : {A B : Type 0} → (A → B) → Sections A → Sections B
each_section f s =
    record { initially = f s.initially; preset = f s.preset; require = f s.require; assert = f s.assert; assume = f s.assume; guarantee = f s.guarantee }

-- the list of each section
abbrev pub section_lists : {A : Type 0} → Sections (Vec A Global) → Sections (List A)
section_lists s = each_section (λ v. v.items) s

-- no formula in any section
abbrev pub no_sections : Sections (List Tree)
no_sections = record { initially = []; preset = []; require = []; assert = []; assume = []; guarantee = [] }
