mod GoingFacts
mod EventFacts
mod ErrandFacts
mod LookFacts
mod OctetFacts
mod NewFacts
mod JobFacts
