use Rattle.std.proofs.Common.{refl}
use Rattle.refutation_log.proofs.laws.written_is_read.Goals as goal

pub returns : goal.returns
returns c = record { back = λ vars log more h. record { stated = (more, record { writable = h; text = refl }); so_many = refl; bytes_of_lines = refl } }
