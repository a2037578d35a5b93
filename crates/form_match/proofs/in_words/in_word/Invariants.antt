use Rattle.std.proofs.Common.{◌≡◌, List, Option, length}
use Rattle.form_term.specs.declared.piece.Piece.{Piece}
use Rattle.form_match.specs.declared.places.Frame.TheVariants as frames
use Rattle.form_match.specs.Places.{ground_of}
use Rattle.form_match.proofs.Onward.{IsOnWay}
use Rattle.form_match.proofs.in_words.in_word.Given as goal

abbrev pub invariant-loop-piece : goal.invariant-loop-piece
invariant-loop-piece l = record {
  framed : l.now.frame ≡ frames.Calls l.host l.place;
  way : (table : List (Option (List Piece))) → IsOnWay table (ground_of l.terms) l.at l.pieces l.initial.trail l.now l.asked l.trail;
}

abbrev pub decreases-loop-piece : goal.decreases-loop-piece
decreases-loop-piece l = length l.asked
