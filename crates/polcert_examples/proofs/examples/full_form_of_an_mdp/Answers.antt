use Rattle.polcert_examples.proofs.FormExamples as forms
use Rattle.polcert_examples.proofs.examples.full_form_of_an_mdp.Goals as goal

pub returns : goal.returns
returns c = record { rewards = forms.two_states_is; costs = forms.two_states_costs_is }
