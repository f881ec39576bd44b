mod StartLemmas
mod OutLemmas
mod UpLemmas
mod StepLemmas
mod DialLemmas
mod KeptLemmas
mod AnsweredLemmas
mod SpanLemmas
