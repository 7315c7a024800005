-- What a refusal says: the number of its question, the place that it names, and its words.
-- Assumes nothing.
use Rattle.std.specs.Prelude.{ℕ, ◌≤◌, ◌≡◌, Bool, true, List, [], ◌∷◌, ◌++◌, codes, decimal}
use Rattle.rules.specs.Lists.{member}
use Rattle.arbiter.specs.declared.refusal.Buffer.{Buffer}
use Rattle.arbiter.specs.declared.refusal.Buffer.TheVariants.{Requests, Image, Snapshot, Wire, Table}
use Rattle.arbiter.specs.declared.refusal.Refusal.{Refusal}
use Rattle.arbiter.specs.declared.refusal.Refusal.TheVariants.{Width, TreeWidth, Picks, HeadRange, ReadLength, WriteLength, NodesLength, NotABit, Acknowledge, SecondOne, FirstLine, InputLength, Code, UnusedBit, WaitingLength, Overflow, NodeByte, Total, Holder, Station, HeadsLength, Link, Filler}
pub mod Laws
pub mod Known

-- the number of the question that was answered no
abbrev pub number : Refusal → ℕ
number Width = 1
number TreeWidth = 2
number Picks = 3
number HeadRange = 4
number ReadLength = 5
number WriteLength = 6
number NodesLength = 7
number (NotABit buffer place) = 8
number Acknowledge = 9
number (SecondOne place) = 10
number FirstLine = 11
number InputLength = 12
number Code = 13
number (UnusedBit place) = 14
number WaitingLength = 15
number (Overflow place) = 16
number (NodeByte place) = 17
number Total = 18
number Holder = 19
number Station = 20
number HeadsLength = 21
number (Link index) = 22
number (Filler index) = 23

-- the place that it names: of a byte for 8, 10, 14 and 17, of a station for 16, of a record for 22 and 23, and else 0
abbrev pub place : Refusal → ℕ
place (NotABit buffer p) = p
place (SecondOne p) = p
place (UnusedBit p) = p
place (Overflow p) = p
place (NodeByte p) = p
place (Link p) = p
place (Filler p) = p
place _ = 0

-- what a buffer is called
abbrev pub buffer_name : Buffer → List ℕ
buffer_name Requests = codes "the requests"
buffer_name Image = codes "the image"
buffer_name Snapshot = codes "the snapshot"
buffer_name Wire = codes "the new wire value"
buffer_name Table = codes "the request table"

-- the words of a refusal that names no place
abbrev pub words : Refusal → List ℕ
words Width = codes "the width must be 1 to 1,024"
words TreeWidth = codes "the tree's width must be a power of two, at least 2"
words Picks = codes "the picks must be 1 to 8, at most the width, and 1 for tree, bus and packed scan"
words HeadRange = codes "a head or wire must be below the width, a saved head needs its mark, and the bus a token"
words ReadLength = codes "the buffer that is read has the wrong length"
words WriteLength = codes "the buffer that is written has the wrong length"
words NodesLength = codes "the node buffer must be twice as long as the width"
words Acknowledge = codes "the acknowledge byte is neither 0 nor 1"
words FirstLine = codes "the first line must be S, T, P or B, the width and the picks, with one space between"
words InputLength = codes "the input must be at most 65,536 bytes long"
words Code = codes "the adder takes two thermometer codes for the picks"
words WaitingLength = codes "there must be one waiting number for each station"
words Total = codes "the new total of asking stations is below 0 or above the width"
words Holder = codes "the holder must be none or below the width"
words Station = codes "the station must be below the width"
words HeadsLength = codes "a buffer of heads has the wrong length"
words _ = []

-- its words, as `{}` writes them: those, or with the place that it names
abbrev pub text : Refusal → List ℕ
text (NotABit buffer p) = codes "byte " ++ (decimal p ++ (codes " of " ++ (buffer_name buffer ++ codes " is neither 0 nor 1")))
text (SecondOne p) = codes "byte " ++ (decimal p ++ codes " of the image is a second 1")
text (UnusedBit p) = codes "byte " ++ (decimal p ++ codes " of the packed requests has a bit set that is no station's")
text (Overflow p) = codes "more than 4,294,967,295 messages would wait at station " ++ decimal p
text (NodeByte p) = codes "node " ++ (decimal p ++ codes " is above 3")
text (Link p) = codes "the link in record " ++ (decimal p ++ codes " is past the last record, or leads back")
text (Filler p) = codes "record " ++ (decimal p ++ codes " has a filler byte or an unused bit that is not 0")
text refusal = words refusal

-- every refusal's number is 1 to 23
abbrev pub Numbered : Type 0
Numbered = (refusal : Refusal) → (1 ≤ number refusal) × (number refusal ≤ 23)

-- the questions that name a place
abbrev pub placing : List ℕ
placing = 8 ∷ 10 ∷ 14 ∷ 16 ∷ 17 ∷ 22 ∷ 23 ∷ []

-- the place is 0 for all others
abbrev pub Placed : Type 0
Placed = (refusal : Refusal) → (member (number refusal) placing ≡ true → ⊥) → place refusal ≡ 0

-- each of them can name any place: there is a refusal with its number and that place
abbrev pub AnyPlace : Type 0
AnyPlace = (question p : ℕ) → member question placing ≡ true → (refusal : Refusal) × (number refusal ≡ question) × (place refusal ≡ p)
