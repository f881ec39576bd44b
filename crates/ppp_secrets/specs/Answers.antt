-- What a call answers.
use Rattle.std.specs.Prelude.{◌≡◌, Result, Ok, Err}
use Rattle.ppp_secrets.specs.declared.fault.SecretsFault.{SecretsFault}
use Rattle.ppp_secrets.specs.declared.fault.SecretsFault.TheVariants.{BadQuote, FewWords, TooLong, FileSecret, BadAddress, NoMemory}

-- The answer is one that may be given, unless memory ran out.
abbrev pub GivesSome : {X Y : Type 0} → (X → Y) → Result X SecretsFault → (Result Y SecretsFault → Type 0) → Type 0
GivesSome view (Ok x) IsGiven = IsGiven (Ok (view x))
GivesSome view (Err (BadQuote number)) IsGiven = IsGiven (Err (BadQuote number))
GivesSome view (Err (FewWords number)) IsGiven = IsGiven (Err (FewWords number))
GivesSome view (Err (TooLong number)) IsGiven = IsGiven (Err (TooLong number))
GivesSome view (Err (FileSecret number)) IsGiven = IsGiven (Err (FileSecret number))
GivesSome view (Err (BadAddress number)) IsGiven = IsGiven (Err (BadAddress number))
GivesSome view (Err NoMemory) IsGiven = Unit {0}

-- The answer is this, unless memory ran out.
abbrev pub Gives : {X Y : Type 0} → (X → Y) → Result X SecretsFault → Result Y SecretsFault → Type 0
Gives view answer read = GivesSome view answer (λ given. read ≡ given)
