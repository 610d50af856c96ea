-- A text as pieces: bytes as they stand, and hex digits of a part of the instruction. What pieces print, and what they read off a line.
use Rattle.std.specs.Prelude.{ℕ, zero, suc, ◌+◌, ◌*◌, ◌/◌, ◌%◌, Bool, true, false, not, ◌&&◌, ◌||◌, List, [], ◌∷◌, ◌++◌, eqb, leb, length, get_or, drop}
use Rattle.laws.specs.Choice.{pick, decided}
use Rattle.words.specs.Frames.{Column, FLAG, NUMBER, DESTINATION, SOURCE, VALUE, Column-discrete}
use Rattle.syntax.specs.Digits.{hex}

pub data Piece : Type 0 where
  says : List ℕ → Piece  -- these bytes
  shows : ℕ → Column → Piece  -- so many hex digits of a part

-- printing, where g gives the value of each part
abbrev pub print : List Piece → (Column → ℕ) → List ℕ
print [] g = []
print (says t ∷ f) g = t ++ print f g
print (shows w p ∷ f) g = hex w (g p) ++ print f g

-- Reading

abbrev pub is_column : Column → Column → Bool
is_column p q = decided (Column-discrete p q)

-- the value of a small hex digit: bytes 48 to 57, 97 to 102
abbrev pub digit_value : ℕ → ℕ
digit_value b = b % 16 + 9 * (b / 64)

-- the number that a line's first w bytes spell
abbrev pub number_in : ℕ → List ℕ → ℕ
number_in zero l = 0
number_in (suc w) l = 16 * number_in w l + digit_value (get_or l w 0)

-- what a line of these pieces shows of part p; 0 where they do not show it
abbrev pub read : List Piece → Column → List ℕ → ℕ
read [] p l = 0
read (says t ∷ f) p l = read f p (drop (length t) l)
read (shows w q ∷ f) p l = pick (is_column p q) (number_in w l) (read f p (drop w l))

-- in how many digits pieces show part p; 0 where they do not
abbrev pub width_in : List Piece → Column → ℕ
width_in [] p = 0
width_in (says t ∷ f) p = width_in f p
width_in (shows w q ∷ f) p = pick (is_column p q) w (width_in f p)

-- where a line of these pieces shows part p
abbrev pub place_in : List Piece → Column → ℕ
place_in [] p = 0
place_in (says t ∷ f) p = length t + place_in f p
place_in (shows w q ∷ f) p = pick (is_column p q) 0 (w + place_in f p)

-- What may stand at each place of the lines that pieces print: one byte, or any small hex digit

pub data Class : Type 0 where
  byte : ℕ → Class
  digit : Class

abbrev pub bytes : List ℕ → List Class → List Class
bytes [] k = k
bytes (x ∷ t) k = byte x ∷ bytes t k

abbrev pub digits : ℕ → List Class → List Class
digits zero k = k
digits (suc w) k = digit ∷ digits w k

abbrev pub pattern : List Piece → List Class
pattern [] = []
pattern (says t ∷ f) = bytes t (pattern f)
pattern (shows w p ∷ f) = digits w (pattern f)

abbrev pub is_hex : ℕ → Bool
is_hex b = (leb 48 b && leb b 57) || (leb 97 b && leb b 102)

abbrev pub disjoint : Class → Class → Bool
disjoint (byte a) (byte b) = not (eqb a b)
disjoint (byte a) digit = not (is_hex a)
disjoint digit (byte b) = not (is_hex b)
disjoint digit digit = false

-- no line has both patterns
abbrev pub apart : List Class → List Class → Bool
apart [] [] = false
apart [] (y ∷ q) = true
apart (x ∷ p) [] = true
apart (x ∷ p) (y ∷ q) = let r = apart p q in disjoint x y || r

-- Bit 26 and the byte number choose the form of a line; digits show the other parts, each once

abbrev pub showable : Column → Bool
showable FLAG = false
showable NUMBER = false
showable DESTINATION = true
showable SOURCE = true
showable VALUE = true

abbrev pub showing : Column → List Piece → Bool
showing p [] = false
showing p (says t ∷ f) = showing p f
showing p (shows w q ∷ f) = is_column p q || showing p f

abbrev pub once : List Piece → Bool
once [] = true
once (says t ∷ f) = once f
once (shows w q ∷ f) = showable q && (not (showing q f) && once f)

-- two lines are the same
abbrev pub equal : List ℕ → List ℕ → Bool
equal [] [] = true
equal [] (y ∷ m) = false
equal (x ∷ l) [] = false
equal (x ∷ l) (y ∷ m) = let r = equal l m in eqb x y && r
