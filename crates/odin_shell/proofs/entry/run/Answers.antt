use Rattle.odin_shell.proofs.RunLemmas.{run_ends, tree_stays, tools_stay, tools_idle}
use Rattle.odin_shell.proofs.StoreLemmas.{status_runs}
use Rattle.odin_shell.proofs.entry.run.Goals as goal

pub returns-clause-ends : goal.returns-clause-ends
returns-clause-ends g c = run_ends _ _ _ _ c.run_words.result _ c.status.ensures c.run_words.ensures

pub returns-clause-tree : goal.returns-clause-tree
returns-clause-tree g c = tree_stays _ _ _ _ c.run_words.result c.run_words.ensures

pub returns-clause-tools : goal.returns-clause-tools
returns-clause-tools g c = tools_stay _ _ _ _ c.run_words.result c.requires c.run_words.ensures

pub returns-clause-idle : goal.returns-clause-idle
returns-clause-idle g c = λ three four five eight. tools_idle _ _ _ _ c.run_words.result c.requires (status_runs c.run_words.result _ c.status.ensures three four five eight) c.run_words.ensures
