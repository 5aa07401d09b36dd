-- The key of a caller who is enrolled.
use Rattle.std.proofs.Common.{◌≡◌, ℕ, ◌-◌, ◌≤◌, min, ◌||◌, true, false, cond, List, [], ◌∷◌, length, take, replicate, codes, eqb, Some, None, refl, subst, arith}
use Rattle.std.specs.Prelude.{IsTrue}
use Rattle.std.proofs.lemmas.Bool.{and_parts, leb-true, ne_eqb, false≢true}
use Rattle.std.proofs.lemmas.List.{take_all, take_at}
use Rattle.std.proofs.lemmas.Option.{cond_some}
use Rattle.serde_json.specs.Data.{Data}
use Rattle.ascii_text.specs.Reading.{◌>>=◌}
use Rattle.ascii_text.specs.Reading.{bind_some}
use Rattle.act_bodies.specs.declared.enrol.Enrol.{Enrol}
use Rattle.act_bodies.specs.declared.key.Key.{Key}
use Rattle.act_bodies.specs.Keys.{key_of, key_text, begins_with_plus}
use Rattle.act_bodies.specs.Members.{object_of, text_in, is_alphanumeric, is_key, key_in, name_in, role_in}
use Rattle.act_bodies.specs.Bodies.{enrol_in, enrol_of}

-- a text that fits is kept whole
pub key_text-key_of : (text : List ℕ) → length text ≤ 34 → key_text (key_of text) ≡ text
key_text-key_of text fits =
    let whole : take 34 text ≡ text = take_all 34 text fits in
    let zeros : List ℕ = replicate {A = ℕ} (34 - length text) 0 in
    let long : length text ≡ min (length text) 34 = omega arith in
    rw whole (take_at text zeros (min (length text) 34) long)

-- the text of a key on the roster begins with no plus
pub key_is_plain : (text : List ℕ) → IsTrue (is_key text) → begins_with_plus text ≡ false
key_is_plain [] h = refl
key_is_plain (first ∷ rest) h =
    let bytes = and_parts _ _ (and_parts _ _ h).1 in
    ne_eqb first 43 (λ plus. false≢true (subst (λ (b : ℕ). (is_alphanumeric b || eqb b 45) ≡ true) plus bytes.0))

fits_in_34 : (n : ℕ) → n ≤ 32 → n ≤ 34
fits_in_34 n long = omega (arith, long)

-- the text of a key on the roster fits
key_fits : (text : List ℕ) → IsTrue (is_key text) → length text ≤ 34
key_fits text h = fits_in_34 (length text) (leb-true (length text) 32 (and_parts _ _ (and_parts _ _ h).0).1)

-- the key that a body names is one on the roster
pub key_in-is_key : (value : Data) (key : Key) → key_in value ≡ Some key → IsTrue (is_key (key_text key))
unfolding key_in
key_in-is_key value key found =
    let named = bind_some (text_in (codes "key") value) (λ text. cond (is_key text) (Some (key_of text)) None) key found in
    let tested = cond_some (is_key named.0) (key_of named.0) key named.2 in
    let kept = key_text-key_of named.0 (key_fits named.0 tested.0) in
    subst (λ (k : Key). IsTrue (is_key (key_text k))) tested.1 (rw kept tested.0)

-- the key of a caller whom an object enrols is one on the roster
pub enrol_in-is_key : (value : Data) (enrol : Enrol) → enrol_in value ≡ Some enrol → IsTrue (is_key (key_text enrol.key))
unfolding enrol_in
enrol_in-is_key value enrol found =
    let a = bind_some (key_in value) (λ key. name_in value >>= λ name. role_in value >>= λ role. Some (record { key = key; name = name; role = role })) enrol found in
    let b = bind_some (name_in value) (λ name. role_in value >>= λ role. Some (record { key = a.0; name = name; role = role })) enrol a.2 in
    let c = bind_some (role_in value) (λ role. Some (record { key = a.0; name = b.0; role = role })) enrol b.2 in
    let same : a.0 ≡ enrol.key = cc in
    subst (λ (k : Key). IsTrue (is_key (key_text k))) same (key_in-is_key value a.0 a.1)

-- the key of a caller whom an object enrols begins with no plus
pub enrol_in-plain : (value : Data) (enrol : Enrol) → enrol_in value ≡ Some enrol → begins_with_plus (key_text enrol.key) ≡ false
enrol_in-plain value enrol found = key_is_plain (key_text enrol.key) (enrol_in-is_key value enrol found)

-- the key of the body of `enrol` is one on the roster
pub enrol_of-is_key : (bytes : List ℕ) (enrol : Enrol) → enrol_of bytes ≡ Some enrol → IsTrue (is_key (key_text enrol.key))
unfolding enrol_of
enrol_of-is_key bytes enrol found =
    let object = bind_some (object_of 3 bytes) enrol_in enrol found in
    enrol_in-is_key object.0 enrol object.2

-- the key of the body of `enrol` begins with no plus, so it is never the founding officer's
pub enrol_of-plain : (bytes : List ℕ) (enrol : Enrol) → enrol_of bytes ≡ Some enrol → begins_with_plus (key_text enrol.key) ≡ false
enrol_of-plain bytes enrol found = key_is_plain (key_text enrol.key) (enrol_of-is_key bytes enrol found)
