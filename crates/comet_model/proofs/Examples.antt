-- Worked examples: names, texts, and lines that were worked out by hand.
use Rattle.std.proofs.Common.{◌≡◌, ℕ, List, [], ◌∷◌, ◌++◌, map, Some, None, Ok, Err, refl}
use Rattle.std.specs.Prelude.{codes, replicate}
use Rattle.std.specs.Fmt.{digits}
use Rattle.ascii_text.specs.Blanks.{are_blanks}
use Rattle.ascii_text.specs.Digits.{digits_text}
use Rattle.packed_names.specs.declared.half_month.HalfMonth.{HalfMonth}
use Rattle.packed_names.specs.declared.name.Designation.{Designation}
use Rattle.packed_names.specs.declared.name.Designation.TheVariants.{Provisional}
use Rattle.packed_names.specs.Packed.{century_text, extended_text, provisional_text}
use Rattle.packed_names.specs.Printed.{half_text, cycle_text, provisional_text as printed_provisional}
use Rattle.comet_names.specs.declared.comet.Comet.{Comet}
use Rattle.comet_names.specs.declared.comet.CometKind.{CometKind}
use Rattle.comet_names.specs.declared.comet.CometKind.TheVariants.{C, P}
use Rattle.comet_names.specs.Packed.{packed_comet}
use Rattle.comet_names.specs.Printed.{printed_comet}
use Rattle.obs_record.specs.declared.sighting.Sighting.{Sighting}
use Rattle.identify_core.specs.Acts.LinkAct.{Given, Joined}
use Rattle.act_model.specs.declared.deed.Deed.TheVariants.{Submitted, Designated, Retracted, Opened}
use Rattle.act_model.specs.declared.taken.Taken.{Taken}
use Rattle.act_model.specs.Discoveries.{half_of}
use Rattle.act_model.specs.Texts.{line_of}
use Rattle.comet_model.specs.declared.named.Found.TheVariants.{NotGiven, NoDiscovery as Undiscovered, Discovered}
use Rattle.comet_model.specs.Finding.{found_of}
use Rattle.comet_model.specs.declared.named.NamedComet.{NamedComet}
use Rattle.comet_model.specs.declared.naming.Naming.{Naming}
use Rattle.comet_model.specs.declared.reply.CometRefusal.TheVariants.{UnknownThing, NoDiscovery, AlreadyComet, HalfMonthFull}
use Rattle.comet_model.specs.Refusals.{named_in}
use Rattle.comet_model.specs.Replies.{refusal_text, named_answer}
use Rattle.comet_model.specs.Texts.{comet_words, object_words, register_line, register_text}
use Rattle.comet_model.specs.Translation.{object_in, translated_line, translation}

-- the half-month 2024 E, its designation of some order, and a comet of it
abbrev half : HalfMonth
half = record { year = 2024; index = 4 }

abbrev designation : ℕ → Designation
designation order = Provisional (record { half = half; order = order })

abbrev comet : CometKind → ℕ → Comet
comet kind number = record { kind = kind; half = half; number = number }

abbrev naming : CometKind → ℕ → Naming
naming kind order = record { kind = kind; object = designation order }

-- 2024 EA is C/2024 E1, and 2024 EB is P/2024 E2
abbrev first : NamedComet
first = record { object = designation 1; comet = comet C 1 }

abbrev second : NamedComet
second = record { object = designation 2; comet = comet P 2 }

-- ---- names

names_first : named_in (naming C 1) half [] ≡ Ok first
names_first = refl

names_second : named_in (naming P 2) half (first ∷ []) ≡ Ok second
names_second = refl

names_once : named_in (naming P 1) half (second ∷ first ∷ []) ≡ Err (AlreadyComet (comet C 1))
names_once = refl

names_99 : named_in (naming C 1) half (replicate 99 second) ≡ Err (HalfMonthFull half 99)
names_99 = refl

-- ---- what the office has

-- a line that was accepted as the first observation, of the first tracklet
abbrev taken : Sighting → Taken
taken sighting = record { line = 1; found = Ok (record { sighting = sighting; track = 1; home = None }) }

-- An object that was designated by its one observation is found, also after this was retracted. Of another designation
-- of the half-month nothing is.
finds_discovered : (s : Sighting) → map (found_of (Retracted 1 ∷ Designated (1 ∷ []) (record { half = half; order = 1 }) 1 ∷ Submitted (taken s ∷ []) ∷ [])) (designation 1 ∷ designation 2 ∷ [])
    ≡ Discovered (half_of s.time) ∷ NotGiven ∷ []
unfolding found_of
finds_discovered s = refl

-- of what an opening carried there is no discovery, and what it didn't carry isn't given
finds_carried : map (found_of (Opened half 3 (3 ∷ []) ∷ [])) (designation 3 ∷ designation 1 ∷ []) ≡ Undiscovered ∷ NotGiven ∷ []
unfolding found_of
finds_carried = refl

-- ---- texts

answers_first : named_answer 1 (Some first) ≡ line_of (codes "receipt 1") ++ line_of (codes "comet C/2024 E1 CK24E010")
unfolding comet_words packed_comet printed_comet half_text digits_text digits
answers_first = refl

tells_second : register_line second (designation 1) ≡ line_of (codes "comet P/2024 E2 PK24E020 object 2024 EB principal 2024 EA")
unfolding comet_words object_words packed_comet printed_comet printed_provisional half_text cycle_text digits_text digits
tells_second = refl

-- 2024 EB was found to be of 2024 EA's object
tells_both : register_text (Joined (designation 1) (designation 2) ∷ Given (designation 2) ∷ Given (designation 1) ∷ []) (second ∷ first ∷ [])
    ≡ line_of (codes "comet C/2024 E1 CK24E010 object 2024 EA principal 2024 EA") ++ line_of (codes "comet P/2024 E2 PK24E020 object 2024 EB principal 2024 EA")
unfolding comet_words object_words packed_comet printed_comet printed_provisional half_text cycle_text digits_text digits
tells_both = refl

refuses : map refusal_text (UnknownThing (designation 25) ∷ NoDiscovery (designation 3) ∷ AlreadyComet (comet C 1) ∷ HalfMonthFull half 99 ∷ [])
    ≡ map line_of (codes "refused 5 UnknownThing designation 2024 EZ" ∷ codes "refused 19 NoDiscovery 2024 EC" ∷ codes "refused 20 AlreadyComet C/2024 E1" ∷ codes "refused 9 HalfMonthFull 2024 E 99" ∷ [])
unfolding printed_comet printed_provisional half_text cycle_text digits_text digits
refuses = refl

-- ---- lines

-- a line with these first 12 columns
abbrev line : List ℕ → List ℕ
line front = front ++ replicate 68 46

translates : map (translated_line (second ∷ first ∷ [])) (line (codes "    CK24E010") ∷ line (codes "    PK24E020") ∷ line (codes "    CK24E030") ∷ line (codes "    PK24E010") ∷ line (codes "12345K24E00A") ∷ line (codes "   CK24E0100") ∷ line (codes "1   CK24E010") ∷ [])
    ≡ line (codes "     K24E00A") ∷ line (codes "     K24E00B") ∷ line (codes "    CK24E030") ∷ line (codes "    PK24E010") ∷ line (codes "12345K24E00A") ∷ line (codes "   CK24E0100") ∷ line (codes "1   CK24E010") ∷ []
unfolding translated_line object_in are_blanks packed_comet digits_text provisional_text century_text
translates = refl

-- lines of 79 and of 81 bytes, lines that end in a carriage return, and a last line without a line feed
translates_batch : translation (first ∷ []) (line_of (codes "COM x") ++ (line_of (codes "    CK24E010") ++ (line (codes "    CK24E010") ++ 13 ∷ 10 ∷ 10 ∷ (line_of (line (codes "    CK24E010") ++ codes "x") ++ line (codes "    CK24E010")))))
    ≡ line_of (codes "COM x") ++ (line_of (codes "    CK24E010") ++ (line (codes "     K24E00A") ++ 13 ∷ 10 ∷ 10 ∷ (line_of (line (codes "    CK24E010") ++ codes "x") ++ line (codes "     K24E00A"))))
unfolding translation translated_line object_in are_blanks packed_comet digits_text provisional_text century_text
translates_batch = refl

-- a designation of a later order
translates_extended : translated_line (record { object = designation 15501; comet = comet P 3 } ∷ first ∷ []) (line (codes "    PK24E030")) ≡ line (codes "     _OE0000")
unfolding translated_line object_in are_blanks packed_comet digits_text provisional_text extended_text
translates_extended = refl
