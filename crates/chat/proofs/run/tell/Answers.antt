use Rattle.chat.proofs.run.tell.Goals as goal

pub returns-in-OtherWords : goal.returns-in-OtherWords
returns-in-OtherWords g c = rw c.in-OtherWords.is c.put.ensures

pub returns-in-BadScript : goal.returns-in-BadScript
returns-in-BadScript g c = rw c.in-BadScript.is c.put-in-BadScript.ensures
