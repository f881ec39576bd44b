use Rattle.ppp_replay.specs.declared.run.Ending.TheVariants as ending
use Rattle.ppp_replay.proofs.RunLemmas.{complete_of}
use Rattle.ppp_replay.proofs.run.replay_run.Goals as goal

pub returns-in-Done-clause-complete : goal.returns-in-Done-clause-complete
returns-in-Done-clause-complete g c = λ all known. complete_of _ ending.Done _ _ _ _ all c.in-Done.ensures.ends known

pub returns-in-Refused-clause-complete : goal.returns-in-Refused-clause-complete
returns-in-Refused-clause-complete g c = λ all known. complete_of _ ending.Refused _ _ _ _ all c.in-Refused.ensures.ends known

pub returns-in-SinkFailed-clause-complete : goal.returns-in-SinkFailed-clause-complete
returns-in-SinkFailed-clause-complete g c = λ all known. complete_of _ ending.SinkFailed _ _ _ _ all c.in-SinkFailed.ensures.ends known

pub returns-in-OtherWords-clause-complete : goal.returns-in-OtherWords-clause-complete
returns-in-OtherWords-clause-complete g c = λ all known. complete_of _ ending.OtherWords _ _ _ _ all c.in-OtherWords.ensures.ends known

pub returns-in-NoMemory-clause-complete : goal.returns-in-NoMemory-clause-complete
returns-in-NoMemory-clause-complete g c = λ all known. complete_of _ ending.NoMemory _ _ _ _ all c.in-NoMemory.ensures.ends known

pub returns-in-SourceFailed-clause-complete : goal.returns-in-SourceFailed-clause-complete
returns-in-SourceFailed-clause-complete g c = λ all known. complete_of _ ending.SourceFailed _ _ _ _ all c.in-SourceFailed.ensures.ends known
