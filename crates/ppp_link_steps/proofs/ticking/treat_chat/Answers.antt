use Rattle.ppp_link_steps.proofs.TickFacts.{chat_calm}
use Rattle.ppp_link_steps.proofs.ticking.treat_chat.Goals as goal

pub returns-clause-calm : goal.returns-clause-calm
returns-clause-calm g c = chat_calm c.tick_chat.ensures.does c.requires.calm
