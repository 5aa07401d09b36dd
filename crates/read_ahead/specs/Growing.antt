-- What is read ahead grows piece by piece, while something is awaited of all that came. The lemmas range over every
-- source and over what is awaited, so that no clause can hold them.
use Rattle.std.proofs.Common.{◌≡◌, ℕ, ◌+◌, ◌<◌, List, [], ◌∷◌, ◌++◌, length, Option, refl, sym, ap, ◌∙◌, subst}
use Rattle.std.proofs.Common.{append_assoc, arith, inr}
use Rattle.std.specs.Io.KnownBytes.{IsAtEnd}
use Rattle.std.proofs.lemmas.List.{append-nil, length-append, nil_from_length}
use Rattle.desk_io.specs.Reads.{Passes, Comes, Comes-nil, Comes-more, Comes-trans, Comes-weaker}
use Rattle.read_ahead.specs.declared.halt.Halt.{Halt}
use Rattle.read_ahead.specs.declared.halt.Halt.TheVariants.{End, Bad, Failed}
use Rattle.read_ahead.specs.Reading.{LacksText, ReadsOnce, IsCut, Halts, halt_at_end}

-- ---- why no message comes

module _ (IsNone : List ℕ → Type 0) where
  -- at the source's end, where none stands at the front
  pub none_at_end : (bytes : List ℕ) (left : Option (List ℕ)) → IsAtEnd left → IsNone bytes
      → Halts IsNone bytes bytes left (halt_at_end bytes)
  none_at_end [] left end none = (refl, refl, end)
  none_at_end (byte ∷ bytes) left end none = inr (none, omega arith, end)

  -- where the text behind its head isn't read whole
  pub none_cut : (front rest : List ℕ) (left : Option (List ℕ)) (halt : Halt) → IsNone front → 0 < length front
      → IsCut left halt → Halts IsNone front rest left halt
  none_cut front rest left End none begun is = absurd is
  none_cut front rest left Bad none begun is = inr (none, begun, is)
  none_cut front rest left Failed none begun is = none

-- ---- pieces that come

module _ {S : Type 0} (left : S → Option (List ℕ)) (gives : Passes S) where
  -- a read that gave no byte leaves what was read ahead
  pub nothing_more : (a b : S) (ahead grown : List ℕ) → ReadsOnce left gives a b ahead grown
      → length grown ≡ length ahead + 0 → grown ≡ ahead
  nothing_more a b ahead grown once same =
      let none : length once.piece ≡ 0 = omega (arith, ap length once.behind, length-append ahead once.piece) in
      once.behind ∙ ap (λ (t : List ℕ). ahead ++ t) (nil_from_length once.piece none) ∙ append-nil ahead

  module _ (IsAwaited : List ℕ → Type 0) where
    -- pieces came after what was read ahead, each while it was awaited
    pub record Grows (before after : S) (ahead grown : List ℕ) : Type 0 where
      pub piece : List ℕ
      pub came : Comes left gives (λ came. IsAwaited (ahead ++ came)) before after piece
      pub behind : grown ≡ ahead ++ piece

    pub grows_none : (a : S) (ahead : List ℕ) → Grows a a ahead ahead
    grows_none a ahead = record {
      piece = [];
      came = Comes-nil left gives (λ came. IsAwaited (ahead ++ came)) a;
      behind = sym (append-nil ahead);
    }

    pub grows_more : (a b c : S) (ahead grown last : List ℕ) → Grows a b ahead grown → IsAwaited grown
        → ReadsOnce left gives b c grown last → Grows a c ahead last
    grows_more a b c ahead grown last grows awaited once = record {
      piece = grows.piece ++ once.piece;
      came = Comes-more left gives (λ came. IsAwaited (ahead ++ came)) a b c grows.piece once.piece grows.came
          (subst IsAwaited grows.behind awaited) once.consumed once.gave;
      behind = once.behind ∙ ap (λ (t : List ℕ). t ++ once.piece) grows.behind
          ∙ append_assoc ahead grows.piece once.piece;
    }

    -- what holds of the bytes read ahead holds of those before and the piece after them
    pub of_all : (P : List ℕ → Type 0) (a b : S) (ahead grown : List ℕ) → Grows a b ahead grown → P grown
        → (piece : List ℕ) × Comes left gives (λ came. IsAwaited (ahead ++ came)) a b piece × P (ahead ++ piece)
    of_all P a b ahead grown grows holds = (grows.piece, grows.came, subst P grows.behind holds)

    -- what holds of all that is read ahead, where a further read of it gave nothing, holds of what came
    pub of_last : (P : List ℕ → Type 0) (a b c : S) (start ahead last : List ℕ) → Grows a b start ahead
        → IsAwaited ahead → ReadsOnce left gives b c ahead last → last ≡ ahead → P ahead
        → (piece : List ℕ) × Comes left gives (λ came. IsAwaited (start ++ came)) a c piece × P (start ++ piece)
    of_last P a b c start ahead last grows awaited once same holds =
        of_all P a c start last (grows_more a b c start ahead last grows awaited once) (subst P (sym same) holds)

    module _ (IsNone : List ℕ → Type 0) (none : (bytes : List ℕ) → IsAwaited bytes → IsNone bytes) (a b c : S)
        (start pending ahead last : List ℕ) (grows : Grows a b start ahead) (once : ReadsOnce left gives b c ahead last)
        (same : pending ≡ ahead) (awaited : IsAwaited pending) where
      here : IsAwaited ahead
      here = subst IsAwaited same awaited

      -- the source is at its end where no message stands at the front
      pub ended : (halt : Halt) → length last ≡ length ahead + 0 → IsAtEnd (left c) → halt ≡ halt_at_end last
          → (piece : List ℕ) × Comes left gives (λ came. IsAwaited (start ++ came)) a c piece
          × Halts IsNone (start ++ piece) last (left c) halt
      ended halt nothing end is =
          let unchanged : last ≡ ahead = nothing_more b c ahead last once nothing in
          let why = none_at_end IsNone last (left c) end (subst IsNone (sym unchanged) (none ahead here)) in
          of_last (λ front. Halts IsNone front last (left c) halt) a b c start ahead last grows here once unchanged
          (subst (λ (t : List ℕ). Halts IsNone t last (left c) halt) unchanged
          (subst (Halts IsNone last last (left c)) (sym is) why))

      -- the source failed where no message stands at the front
      pub failed : last ≡ ahead → (piece : List ℕ) × Comes left gives (λ came. IsAwaited (start ++ came)) a c piece
          × IsNone (start ++ piece)
      failed unchanged = of_last IsNone a b c start ahead last grows here once unchanged (none ahead here)

  -- the reads of a head, and those of the text behind it
  pub both_come : (Asks : List ℕ → Type 0) (a b c : S) (middle first second : List ℕ) (size : ℕ)
      → ((came : List ℕ) → LacksText middle size came → Asks (first ++ came)) → Comes left gives Asks a b first
      → Comes left gives (LacksText middle size) b c second → Comes left gives Asks a c (first ++ second)
  both_come Asks a b c middle first second size asks head text =
      Comes-trans left gives Asks a b c first second head
      (Comes-weaker left gives (LacksText middle size) (λ came. Asks (first ++ came)) asks b c second text)
