use Rattle.std_lemmas.proofs.Lists.{slice_get-append}
use Rattle.refutation_log.proofs.FollowsLemmas.{clause_named-append, Follows-append}
use Rattle.refutation_log.proofs.LegalLemmas.{Follows-in_log, legal_prefix}
use Rattle.refutation_log.proofs.laws.prefixes_stay.Goals as goal

pub returns : goal.returns
returns c = record {
  names = clause_named-append;
  places = slice_get-append;
  follows = Follows-append;
  follows_in_log = Follows-in_log;
  legal_prefix = legal_prefix;
}
