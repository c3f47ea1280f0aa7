use Rattle.witness_text.proofs.ReadLemmas.{numbered, well}
use Rattle.witness_text.proofs.reading.read_witness.Goals as goal

pub returns : goal.returns
returns c = record {
  reads = c.in_ok-lines.ensures;
  numbered = numbered c.args.following c.args.first c.args.bytes.now c.in_ok-lines.lines c.requires c.in_ok-lines.ensures;
  well = well c.args.following c.args.first c.args.bytes.now c.in_ok-lines.lines c.in_ok-lines.ensures;
}
