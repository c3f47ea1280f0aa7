use Rattle.std.specs.Prelude.{Result, Ok, Err, OnErr}

-- what holds anyhow holds after an error
pub on_err : {T E Q : Type 0} (r : Result T E) → Q → OnErr r Q
on_err (Ok x) q = tt
on_err (Err e) q = q
