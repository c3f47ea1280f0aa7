use Rattle.std.specs.Prelude.{not, List, [], ◌∷◌, ◌++◌, filter, if◌then◌else◌}
use Rattle.std.specs.List.{list_any}
use Rattle.indexmap.specs.IndexSet.{insert_key}
use Rattle.obligation_sets.specs.declared.sets.Cover.{Cover}
use Rattle.obligation_sets.specs.declared.sets.Covering.{Covering}
use Rattle.obligation_sets.specs.Covers.{same_cover}
use Rattle.obligation_sets.specs.Reduced.{asks_no_more}

-- one more cover met: it is left out where one that was kept asks no more; else those go that ask no less
abbrev pub keep_minimal : List Cover → Cover → List Cover
keep_minimal kept cover =
    if list_any (λ k. asks_no_more k cover) kept then kept else filter (λ k. not (asks_no_more cover k)) kept ++ cover ∷ []

-- the covers that are kept once one more was met (this project's own)
abbrev pub gather : Covering → List Cover → Cover → List Cover
gather Covering.Plain kept cover = insert_key same_cover kept cover
gather Covering.Reduced kept cover = keep_minimal kept cover
