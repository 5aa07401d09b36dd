-- The code of the body of `station`.
use Rattle.std.proofs.Common.{◌≡◌, ℕ, true, cond, List, codes, Some, None, subst}
use Rattle.std.specs.Prelude.{int_le}
use Rattle.std.proofs.lemmas.Option.{cond_some}
use Rattle.serde_json.specs.Data.{Data}
use Rattle.ascii_text.specs.Reading.{◌>>=◌, bind_some}
use Rattle.act_bodies.specs.declared.station.Station.{Station}
use Rattle.act_bodies.specs.Members.{object_of, text_in, is_station_code, station_code_in, name_in, day_in}
use Rattle.act_bodies.specs.Bodies.{station_in, station_of}

abbrev is_code : List ℕ → Type 0
is_code code = is_station_code code ≡ true

station_code_in-is_code : (value : Data) (code : List ℕ) → station_code_in value ≡ Some code → is_code code
unfolding station_code_in
station_code_in-is_code value code found =
    let text = bind_some (text_in (codes "code") value) (λ t. cond (is_station_code t) (Some t) None) code found in
    let tested = cond_some (is_station_code text.0) text.0 code text.2 in
    subst is_code tested.1 tested.0

station_in-is_code : (value : Data) (station : Station) → station_in value ≡ Some station → is_code station.code
unfolding station_in
station_in-is_code value station found =
    let a = bind_some (station_code_in value)
    (λ code. name_in value >>= λ name. day_in (codes "from") value >>= λ from. day_in (codes "to") value >>= λ to. cond (int_le from to) (Some (record { code = code; name = name; from = from; to = to })) None)
    station found in
    let b = bind_some (name_in value)
    (λ name. day_in (codes "from") value >>= λ from. day_in (codes "to") value >>= λ to. cond (int_le from to) (Some (record { code = a.0; name = name; from = from; to = to })) None)
    station a.2 in
    let f = bind_some (day_in (codes "from") value)
    (λ from. day_in (codes "to") value >>= λ to. cond (int_le from to) (Some (record { code = a.0; name = b.0; from = from; to = to })) None)
    station b.2 in
    let t = bind_some (day_in (codes "to") value)
    (λ to. cond (int_le f.0 to) (Some (record { code = a.0; name = b.0; from = f.0; to = to })) None)
    station f.2 in
    let tested = cond_some (int_le f.0 t.0) (record { code = a.0; name = b.0; from = f.0; to = t.0 }) station t.2 in
    subst (λ (s : Station). is_code s.code) tested.1 (station_code_in-is_code value a.0 a.1)

pub station_of-is_code : (bytes : List ℕ) (station : Station) → station_of bytes ≡ Some station → is_code station.code
unfolding station_of
station_of-is_code bytes station found =
    let object = bind_some (object_of 4 bytes) station_in station found in
    station_in-is_code object.0 station object.2
