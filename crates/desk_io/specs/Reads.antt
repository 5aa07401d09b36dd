-- Reads of a source, one after the other.
use Rattle.std.specs.Prelude.{ℕ, List, [], ◌++◌}
use Rattle.std.specs.declared.option.Option.{Option}
use Rattle.std.specs.Io.KnownBytes.{Consumes}
use Rattle.std.proofs.Common.{sym, subst, append_assoc, append-nil}
use Rattle.std.proofs.KnownBytes.{Consumes-nil, Consumes-trans}

-- what one read of a source gives: from the source before it to the source after it
abbrev pub Passes : Type 0 → Type 1
Passes S = S → List ℕ → S → Type 0

-- From the first source to this one, reads gave these bytes, one after the other. Each read was made only where the
-- bytes that had come before it asked for more.
pub data ReadsOn {S : Type 0} (gives : Passes S) (Asks : List ℕ → Type 0) (first : S) : List ℕ → S → Type 0 where
  unread : ReadsOn gives Asks first [] first
  was_read : (came more : List ℕ) (a b : S) → ReadsOn gives Asks first came a → Asks came → gives a more b
      → ReadsOn gives Asks first (came ++ more) b

-- these bytes came out of a source by such reads, and are no longer left there
pub record Comes {S : Type 0} (left : S → Option (List ℕ)) (gives : Passes S) (Asks : List ℕ → Type 0)
    (before after : S) (bytes : List ℕ) : Type 0 where
  pub consumed : Consumes (left before) (left after) bytes
  pub reads : ReadsOn gives Asks before bytes after

-- ---- how they follow one another

module _ {S : Type 0} (gives : Passes S) where
  -- reads that are allowed more often
  pub ReadsOn-weaker : (P Q : List ℕ → Type 0) → ((came : List ℕ) → P came → Q came) → (a b : S) (bytes : List ℕ)
      → ReadsOn gives P a bytes b → ReadsOn gives Q a bytes b
  ReadsOn-weaker P Q weaker a b bytes unread = unread
  ReadsOn-weaker P Q weaker a b bytes (was_read came more c d reads asks gave) =
      was_read came more c d (ReadsOn-weaker P Q weaker a c came reads) (weaker came asks) gave

  -- reads after reads
  pub ReadsOn-trans : (Asks : List ℕ → Type 0) (a b : S) (xs : List ℕ) (c : S) (ys : List ℕ)
      → ReadsOn gives Asks a xs b → ReadsOn gives (λ came. Asks (xs ++ came)) b ys c → ReadsOn gives Asks a (xs ++ ys) c
  ReadsOn-trans Asks a b xs c ys first unread = subst (λ (l : List ℕ). ReadsOn gives Asks a l b)
      (sym (append-nil xs)) first
  ReadsOn-trans Asks a b xs c ys first (was_read came more d e reads asks gave) =
      subst (λ (l : List ℕ). ReadsOn gives Asks a l c) (append_assoc xs came more)
      (was_read (xs ++ came) more d e (ReadsOn-trans Asks a b xs d came first reads) asks gave)

module _ {S : Type 0} (left : S → Option (List ℕ)) (gives : Passes S) where
  -- nothing was read
  pub Comes-nil : (Asks : List ℕ → Type 0) (a : S) → Comes left gives Asks a a []
  Comes-nil Asks a = record { consumed = Consumes-nil (left a); reads = unread }

  -- one read more
  pub Comes-more : (Asks : List ℕ → Type 0) (a b c : S) (xs ys : List ℕ) → Comes left gives Asks a b xs → Asks xs
      → Consumes (left b) (left c) ys → gives b ys c → Comes left gives Asks a c (xs ++ ys)
  Comes-more Asks a b c xs ys first asks consumed gave =
      record {
        consumed = Consumes-trans (left a) (left b) (left c) xs ys first.consumed consumed;
        reads = was_read xs ys b c first.reads asks gave;
      }

  -- reads after reads
  pub Comes-trans : (Asks : List ℕ → Type 0) (a b c : S) (xs ys : List ℕ) → Comes left gives Asks a b xs
      → Comes left gives (λ came. Asks (xs ++ came)) b c ys → Comes left gives Asks a c (xs ++ ys)
  Comes-trans Asks a b c xs ys first second =
      record {
        consumed = Consumes-trans (left a) (left b) (left c) xs ys first.consumed second.consumed;
        reads = ReadsOn-trans gives Asks a b xs c ys first.reads second.reads;
      }

  -- reads that are allowed more often
  pub Comes-weaker : (P Q : List ℕ → Type 0) → ((came : List ℕ) → P came → Q came) → (a b : S) (bytes : List ℕ)
      → Comes left gives P a b bytes → Comes left gives Q a b bytes
  Comes-weaker P Q weaker a b bytes comes = record {
    consumed = comes.consumed;
    reads = ReadsOn-weaker gives P Q weaker a b bytes comes.reads;
  }
