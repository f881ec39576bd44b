mod ChatFacts
mod WayFacts
mod FrameFacts
mod OctetFacts
