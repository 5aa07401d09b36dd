-- A message whose head is read first, and then its body.
use Rattle.std.proofs.Common.{ℕ, ◌<◌, inl, List, ◌++◌, length, Option, ap, subst, append_assoc, arith}
use Rattle.std.proofs.lemmas.List.{length-append}
use Rattle.desk_io.specs.Reads.{Passes, Comes}
use Rattle.read_ahead.specs.declared.body.Body.{Body}
use Rattle.httparse.specs.Grammar.{print_request}
use Rattle.desk_http.specs.declared.head.HeadParts.{HeadParts}
use Rattle.desk_http.specs.Heads.{IsHead, NoMessage}
use Rattle.desk_http.specs.Reading.{AwaitsMessage}
use Rattle.read_ahead.specs.declared.halt.Halt.{Halt}
use Rattle.read_ahead.specs.Reading.{LacksText, IsTextRead, IsCut, Halts}
use Rattle.read_ahead.specs.Growing.{none_cut, both_come}
use Rattle.desk_http.specs.Answers.{IfKept, IsWholeRead}
use Rattle.desk_http.proofs.Messages.{head_grows, body_missing}
use Rattle.desk_http.proofs.Fronts.{some_bytes}

-- what comes after the bytes that begin with a head
behind_head : (start first second middle : List ℕ) (h : HeadParts) → IsHead (start ++ first) h middle → IsHead (start ++ (first ++ second)) h (middle ++ second)
behind_head start first second middle h stands =
    subst (λ (t : List ℕ). IsHead t h (middle ++ second)) (append_assoc start first second) (head_grows (start ++ first) h middle second stands)

-- while bytes of a body are missing after its head, a message is awaited
awaited : (start first middle came : List ℕ) (h : HeadParts) → IsHead (start ++ first) h middle → LacksText middle h.length came → AwaitsMessage start (first ++ came)
awaited start first middle came h stands lacks =
    let is = behind_head start first came middle h stands in
    (body_missing (start ++ (first ++ came)) h (middle ++ came) is lacks, inl (h, middle ++ came, is))

begun : (bytes : List ℕ) (h : HeadParts) (rest : List ℕ) → IsHead bytes h rest → 0 < length bytes
begun bytes h rest a =
    let some : 0 < length (print_request a.head) = some_bytes a.head a.reads.0 in
    omega (arith, some, ap length a.reads.1, length-append (print_request a.head) rest)

module _ {S : Type 0} (left : S → Option (List ℕ)) (gives : Passes S) where
  pub whole_read : (a b c : S) (start middle rest : List ℕ) (parts : HeadParts) (body : Body)
      → (first : List ℕ) × Comes left gives (AwaitsMessage start) a b first × IsHead (start ++ first) parts middle
      → (second : List ℕ) × Comes left gives (LacksText middle parts.length) b c second × IsTextRead (middle ++ second) parts.length (IfKept body) rest
      → (piece : List ℕ) × Comes left gives (AwaitsMessage start) a c piece × IsWholeRead (start ++ piece) (record { parts = parts; body = body }) rest
  whole_read a b c start middle rest parts body first second =
      let front : List ℕ = start ++ (first.0 ++ second.0) in
      let read = second.2 in (
        first.0 ++ second.0,
        both_come left gives (AwaitsMessage start) a b c middle first.0 second.0 parts.length (λ came. awaited start first.0 middle came parts first.2) first.1 second.1,
        record {
          text = read.text;
          stands = record { head = subst (IsHead front parts) read.stands (behind_head start first.0 second.0 middle parts first.2); long = read.long };
          kept = read.told;
        },
      )

  pub whole_cut : (a b c : S) (start middle rest : List ℕ) (parts : HeadParts) (halt : Halt)
      → (first : List ℕ) × Comes left gives (AwaitsMessage start) a b first × IsHead (start ++ first) parts middle
      → (second : List ℕ) × Comes left gives (LacksText middle parts.length) b c second × ((length (middle ++ second) < parts.length) × IsCut (left c) halt)
      → (piece : List ℕ) × Comes left gives (AwaitsMessage start) a c piece × Halts NoMessage (start ++ piece) rest (left c) halt
  whole_cut a b c start middle rest parts halt first second =
      let front : List ℕ = start ++ (first.0 ++ second.0) in
      let is : IsHead front parts (middle ++ second.0) = behind_head start first.0 second.0 middle parts first.2 in (
        first.0 ++ second.0,
        both_come left gives (AwaitsMessage start) a b c middle first.0 second.0 parts.length (λ came. awaited start first.0 middle came parts first.2) first.1 second.1,
        none_cut NoMessage front rest (left c) halt (body_missing front parts (middle ++ second.0) is second.2.0) (begun front parts (middle ++ second.0) is) second.2.1,
      )
