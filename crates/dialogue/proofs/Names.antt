-- The names of the calls and of the rows, letter by letter.
use Rattle.std.proofs.Common.{◌≡◌, [], ◌∷◌, refl}
use Rattle.dialogue.specs.Words.{letters_from, letters_of}
use Rattle.dialogue.specs.Calls.{new, frame, time, due, send, take, close, room, buffer}
use Rattle.dialogue.specs.Rows.{drive, comfort, high, low}

pub new-spelt : letters_of (110 ∷ 101 ∷ 119 ∷ []) ≡ new
unfolding letters_from letters_of
new-spelt = refl

pub frame-spelt : letters_of (102 ∷ 114 ∷ 97 ∷ 109 ∷ 101 ∷ []) ≡ frame
unfolding letters_from letters_of
frame-spelt = refl

pub time-spelt : letters_of (116 ∷ 105 ∷ 109 ∷ 101 ∷ []) ≡ time
unfolding letters_from letters_of
time-spelt = refl

pub due-spelt : letters_of (100 ∷ 117 ∷ 101 ∷ []) ≡ due
unfolding letters_from letters_of
due-spelt = refl

pub send-spelt : letters_of (115 ∷ 101 ∷ 110 ∷ 100 ∷ []) ≡ send
unfolding letters_from letters_of
send-spelt = refl

pub take-spelt : letters_of (116 ∷ 97 ∷ 107 ∷ 101 ∷ []) ≡ take
unfolding letters_from letters_of
take-spelt = refl

pub close-spelt : letters_of (99 ∷ 108 ∷ 111 ∷ 115 ∷ 101 ∷ []) ≡ close
unfolding letters_from letters_of
close-spelt = refl

pub room-spelt : letters_of (114 ∷ 111 ∷ 111 ∷ 109 ∷ []) ≡ room
unfolding letters_from letters_of
room-spelt = refl

pub buffer-spelt : letters_of (98 ∷ 117 ∷ 102 ∷ 102 ∷ 101 ∷ 114 ∷ []) ≡ buffer
unfolding letters_from letters_of
buffer-spelt = refl

pub drive-spelt : letters_of (100 ∷ 114 ∷ 105 ∷ 118 ∷ 101 ∷ []) ≡ drive
unfolding letters_from letters_of
drive-spelt = refl

pub comfort-spelt : letters_of (99 ∷ 111 ∷ 109 ∷ 102 ∷ 111 ∷ 114 ∷ 116 ∷ []) ≡ comfort
unfolding letters_from letters_of
comfort-spelt = refl

pub high-spelt : letters_of (104 ∷ 105 ∷ 103 ∷ 104 ∷ []) ≡ high
unfolding letters_from letters_of
high-spelt = refl

pub low-spelt : letters_of (108 ∷ 111 ∷ 119 ∷ []) ≡ low
unfolding letters_from letters_of
low-spelt = refl
