-- Small cases of the refusals, by computing: their numbers, the places that they name, and their words.
-- Assumes nothing.
use Rattle.std.specs.Prelude.{◌≡◌, refl, [], ◌∷◌, map, codes}
use Rattle.std.specs.Fmt.{digits}
use Rattle.arbiter.specs.declared.refusal.Buffer.TheVariants.{Requests, Image, Snapshot, Wire, Table}
use Rattle.arbiter.specs.declared.refusal.Refusal.TheVariants.{Width, TreeWidth, Picks, HeadRange, ReadLength, WriteLength, NodesLength, NotABit, Acknowledge, SecondOne, FirstLine, InputLength, Code, UnusedBit, WaitingLength, Overflow, NodeByte, Total, Holder, Station, HeadsLength, Link, Filler}
use Rattle.arbiter.specs.Refusals.{number, place, text}

pub record KnownRefusals : Type 0 where
  -- those that name no place
  pub numbers : map number (Width ∷ TreeWidth ∷ Picks ∷ HeadRange ∷ ReadLength ∷ WriteLength ∷ NodesLength ∷ Acknowledge ∷ FirstLine ∷ InputLength ∷ Code ∷ WaitingLength ∷ Total ∷ Holder ∷ Station ∷ HeadsLength ∷ [])
      ≡ 1 ∷ 2 ∷ 3 ∷ 4 ∷ 5 ∷ 6 ∷ 7 ∷ 9 ∷ 11 ∷ 12 ∷ 13 ∷ 15 ∷ 18 ∷ 19 ∷ 20 ∷ 21 ∷ []
  pub no_places : map place (Width ∷ HeadRange ∷ Acknowledge ∷ Total ∷ Holder ∷ Station ∷ HeadsLength ∷ []) ≡ 0 ∷ 0 ∷ 0 ∷ 0 ∷ 0 ∷ 0 ∷ 0 ∷ []
  pub words : map text (HeadRange ∷ FirstLine ∷ Total ∷ Holder ∷ Station ∷ HeadsLength ∷ [])
      ≡ codes "a head or wire must be below the width, a saved head needs its mark, and the bus a token"
      ∷ codes "the first line must be S, T, P or B, the width and the picks, with one space between"
      ∷ codes "the new total of asking stations is below 0 or above the width"
      ∷ codes "the holder must be none or below the width"
      ∷ codes "the station must be below the width"
      ∷ codes "a buffer of heads has the wrong length"
      ∷ []
  -- those that name one
  pub placed_numbers : map number (NotABit Table 1 ∷ SecondOne 2 ∷ UnusedBit 3 ∷ Overflow 4 ∷ NodeByte 5 ∷ Link 6 ∷ Filler 7 ∷ []) ≡ 8 ∷ 10 ∷ 14 ∷ 16 ∷ 17 ∷ 22 ∷ 23 ∷ []
  pub places : map place (NotABit Table 1 ∷ SecondOne 2 ∷ UnusedBit 3 ∷ Overflow 4 ∷ NodeByte 5 ∷ Link 6 ∷ Filler 7 ∷ []) ≡ 1 ∷ 2 ∷ 3 ∷ 4 ∷ 5 ∷ 6 ∷ 7 ∷ []
  pub placed_words : map text (SecondOne 0 ∷ UnusedBit 127 ∷ Overflow 1023 ∷ NodeByte 1 ∷ Link 5 ∷ Filler 3 ∷ [])
      ≡ codes "byte 0 of the image is a second 1"
      ∷ codes "byte 127 of the packed requests has a bit set that is no station's"
      ∷ codes "more than 4,294,967,295 messages would wait at station 1023"
      ∷ codes "node 1 is above 3"
      ∷ codes "the link in record 5 is past the last record, or leads back"
      ∷ codes "record 3 has a filler byte or an unused bit that is not 0"
      ∷ []
  -- each buffer by its name
  pub buffers : map text (NotABit Requests 7 ∷ NotABit Image 0 ∷ NotABit Snapshot 5 ∷ NotABit Wire 0 ∷ NotABit Table 42 ∷ [])
      ≡ codes "byte 7 of the requests is neither 0 nor 1"
      ∷ codes "byte 0 of the image is neither 0 nor 1"
      ∷ codes "byte 5 of the snapshot is neither 0 nor 1"
      ∷ codes "byte 0 of the new wire value is neither 0 nor 1"
      ∷ codes "byte 42 of the request table is neither 0 nor 1"
      ∷ []

pub known : KnownRefusals
unfolding digits
known =
    record {
      numbers = refl;
      no_places = refl;
      words = refl;
      placed_numbers = refl;
      places = refl;
      placed_words = refl;
      buffers = refl;
    }
