-- A text that is read piece by piece, after what was read ahead, until it is whole.
use Rattle.std.proofs.Common.{◌≡◌, ℕ, ◌+◌, ◌-◌, ◌≤◌, List, [], ◌++◌, length, take, drop, Option, Some, None, IfSome, sym, ap, ◌∙◌, subst, append_assoc, arith, inl, inr, ◌<◌}
use Rattle.std.specs.Prelude.{IsSomeAnd}
use Rattle.std.proofs.lemmas.List.{append-nil, take-append-drop, length-append, length-take-le}
use Rattle.desk_io.specs.Reads.{Passes, Comes, Comes-nil, Comes-more}
use Rattle.read_ahead.specs.declared.halt.Halt.{Halt}
use Rattle.read_ahead.specs.Reading.{LacksText, ReadsAhead, IsCut}

kept_longer : (old new : Option (List ℕ)) (text piece : List ℕ) → IfSome old (λ bytes. bytes ≡ text) → IfSome new (λ longer. IsSomeAnd old (λ bytes. longer ≡ bytes ++ piece))
    → IfSome new (λ bytes. bytes ≡ text ++ piece)
kept_longer old None text piece before now = tt
kept_longer None (Some longer) text piece before now = absurd now
kept_longer (Some bytes) (Some longer) text piece before now = now ∙ ap (λ (t : List ℕ). t ++ piece) before

module _ {S : Type 0} (left : S → Option (List ℕ)) (gives : Passes S) where
  -- pieces came; a text was used from the front, of which this many bytes of all are missing and which was kept where
  -- there was memory
  pub record IsTaken (before after : S) (ahead rest : List ℕ) (size missing : ℕ) (kept : Option (List ℕ)) : Type 0 where
    pub piece : List ℕ
    pub came : Comes left gives (LacksText ahead size) before after piece
    pub text : List ℕ
    pub stands : ahead ++ piece ≡ text ++ rest
    pub long : length text + missing ≡ size
    pub same : IfSome kept (λ bytes. bytes ≡ text)

  pub nothing_taken : (a : S) (ahead : List ℕ) (size : ℕ) (kept : Option (List ℕ)) → IfSome kept (λ bytes. bytes ≡ []) → IsTaken a a ahead ahead size size kept
  nothing_taken a ahead size kept empty =
      record { piece = []; came = Comes-nil left gives (LacksText ahead size) a; text = []; stands = append-nil ahead; long = omega arith; same = empty }

  -- more bytes came, while some were missing and none was read ahead
  pub taken_grows : (a b c : S) (ahead rest more : List ℕ) (size missing : ℕ) (kept : Option (List ℕ)) → 0 < missing → IsTaken a b ahead rest size missing kept → ReadsAhead left gives b c rest more
      → IsTaken a c ahead more size missing kept
  taken_grows a b c ahead rest more size missing kept some taken (inl (source, unread)) =
      subst (λ (x : S). IsTaken a x ahead more size missing kept) (sym source) (subst (λ (t : List ℕ). IsTaken a b ahead t size missing kept) (sym unread) taken)
  taken_grows a b c ahead rest more size missing kept some taken (inr (empty, once)) =
      let lacks : length (ahead ++ taken.piece) < size = omega (arith, ap length taken.stands, length-append taken.text rest, ap length empty, taken.long) in
      record {
        piece = taken.piece ++ once.piece;
        came = Comes-more left gives (LacksText ahead size) a b c taken.piece once.piece taken.came lacks once.consumed once.gave;
        text = taken.text;
        stands = sym (append_assoc ahead taken.piece once.piece) ∙ ap (λ (t : List ℕ). t ++ once.piece) taken.stands
            ∙ append_assoc taken.text rest once.piece ∙ ap (λ (t : List ℕ). taken.text ++ t) (sym once.behind);
        long = taken.long;
        same = taken.same;
      }

  -- the source stopped while bytes were missing
  pub text_cut : (a b c : S) (ahead rest more : List ℕ) (size missing : ℕ) (kept : Option (List ℕ)) → 0 < missing → IsTaken a b ahead rest size missing kept → ReadsAhead left gives b c rest more → more ≡ []
      → (halt : Halt) → IsCut (left c) halt → (piece : List ℕ) × Comes left gives (LacksText ahead size) a c piece × ((length (ahead ++ piece) < size) × IsCut (left c) halt)
  text_cut a b c ahead rest more size missing kept some taken came none halt is =
      let all = taken_grows a b c ahead rest more size missing kept some taken came in
      let lacks : length (ahead ++ all.piece) < size = omega (arith, ap length all.stands, length-append all.text more, ap length none, all.long) in
      (all.piece, all.came, (lacks, is))

  -- bytes that were missing are used, and next is left
  pub taken_more : (a b : S) (ahead rest pending used next : List ℕ) (size missing count : ℕ) (old new : Option (List ℕ)) → IsTaken a b ahead rest size missing old
      → pending ≡ rest → count ≤ length pending → count ≤ missing → used ≡ take count pending → next ≡ drop count rest → IfSome new (λ longer. IsSomeAnd old (λ bytes. longer ≡ bytes ++ used))
      → IsTaken a b ahead next size (missing - count) new
  taken_more a b ahead rest pending used next size missing count old new taken same within few front behind longer =
      let parts : used ++ next ≡ rest =
      ap (λ (t : List ℕ). t ++ next) (front ∙ ap (take count) same) ∙ ap (λ (t : List ℕ). take count rest ++ t) behind ∙ take-append-drop count rest in
      record {
        piece = taken.piece;
        came = taken.came;
        text = taken.text ++ used;
        stands = taken.stands ∙ ap (λ (t : List ℕ). taken.text ++ t) (sym parts) ∙ sym (append_assoc taken.text used next);
        long = omega (arith, length-append taken.text used, ap length front, length-take-le count pending within, taken.long);
        same = kept_longer old new taken.text used taken.same longer;
      }
