use Rattle.chat.proofs.AskedLemmas.{failed_plan, memory_plan, quote_plan_of, words_plan}
use Rattle.chat.proofs.asking.file_plan.Goals as goal

pub returns-in-Words : goal.returns-in-Words
returns-in-Words g c = words_plan _ _ _ _ _ c.in-Words.words c.script_plan.result c.in-Words.ensures (rw c.as_slice.ensures.value at c.script_plan.ensures.gives) c.script_plan.ensures.sound

pub returns-in-OpenQuote : goal.returns-in-OpenQuote
returns-in-OpenQuote g c = quote_plan_of _ _ _ _ _ c.in-OpenQuote.field-0 c.in-OpenQuote.field-1 c.in-OpenQuote.ensures

pub returns-in-Failed : goal.returns-in-Failed
returns-in-Failed g c = failed_plan _ _ _ _ _ c.in-Failed.ensures

pub returns : goal.returns
returns g c = memory_plan _ _ _ _ _ c.in-NoMemory.ensures
