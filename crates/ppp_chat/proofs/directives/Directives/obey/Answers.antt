use Rattle.ppp_chat.proofs.directives.Directives.obey.Goals as goal

pub returns-in-ClearAbort-clause-below : goal.returns-in-ClearAbort-clause-below
returns-in-ClearAbort-clause-below c end within below = c.clear_abort.ensures.below end below
