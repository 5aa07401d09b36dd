-- What a reader of the front of the bytes says.
use Rattle.std.specs.Prelude.{◌≡◌, ℕ, ◌<◌, ◌≤◌, List, [], ◌∷◌, length, drop}
use Rattle.httparse.specs.Grammar.{HasNoRequest}
use Rattle.desk_http.specs.declared.TheConstants.{HEAD_BYTES}
use Rattle.desk_http.specs.declared.head.Named.{Named}
use Rattle.desk_http.specs.declared.head.Named.TheVariants as named
use Rattle.desk_http.specs.declared.head.Front.{Front}
use Rattle.desk_http.specs.declared.head.Front.TheVariants as fronts
use Rattle.desk_http.specs.Heads.{IsHead, NeverMessage}

-- how often a field stands, and its value where it stands once
abbrev pub IsNamed : Named → List (List ℕ) → Type 0
IsNamed named.Absent values = values ≡ []
IsNamed (named.Once value) values = values ≡ value.now ∷ []
IsNamed named.Repeated values = (first : List ℕ) × (second : List ℕ) × (more : List (List ℕ))
    × (values ≡ first ∷ second ∷ more)

-- what the front of the bytes that have come is
abbrev pub ReadsFront : List ℕ → Front → Type 0
ReadsFront bytes (fronts.Whole parts size) = IsHead bytes parts (drop size bytes) × (0 < size) × (size ≤ length bytes)
ReadsFront bytes fronts.Part = HasNoRequest bytes × (length bytes < HEAD_BYTES)
ReadsFront bytes fronts.Bad = NeverMessage bytes
