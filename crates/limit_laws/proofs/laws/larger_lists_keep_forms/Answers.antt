use Rattle.limit_laws.proofs.BothFit.{forms_fit}
use Rattle.limit_laws.proofs.FormsFit.{form_fits}
use Rattle.limit_laws.proofs.laws.larger_lists_keep_forms.Goals as goal

pub returns : goal.returns
returns c = record { form = λ most more wider keep f. (form_fits most more wider keep f).same; both = forms_fit }
