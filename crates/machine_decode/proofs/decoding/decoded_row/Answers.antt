use Rattle.machine_decode.proofs.decoding.decoded_row.Goals as goal

pub returns : goal.returns
returns c = record { next = c.least_move-next.ensures; writes = c.written_letter-writes.ensures }
