-- What holds of least tables, of going round to them, and of guesses.
use Rattle.fixpoint.specs.Says.{LeastParts}
use Rattle.fixpoint.proofs.Joins.{covers_is}
use Rattle.fixpoint.proofs.Sweeps.{covered_stays, start_sound, hop_sound, round_sound, round_same, round_last}
use Rattle.fixpoint.proofs.Room.{round_lowers, round_no_more}
use Rattle.fixpoint.proofs.Leasts.{has_least, one_least, least_in_bits, least_sound, way_ends}
use Rattle.fixpoint.proofs.Growth.{makes_grows}
use Rattle.fixpoint.proofs.Guesses.{guess_over, guess_right}
use Rattle.fixpoint.proofs.Needed.{needed}
use Rattle.fixpoint.proofs.Ways.{guess_sound, guess_no_more, way_sound, way_last}
use Rattle.fixpoint.proofs.Cases.{least_worked}

pub parts : LeastParts
parts = record { has_least = has_least; one_least = one_least; least_in_bits = least_in_bits; least_sound = least_sound; covers_is = covers_is; covered_stays = covered_stays; start_sound = start_sound; hop_sound = hop_sound; round_sound = round_sound; round_same = round_same; round_last = round_last; round_lowers = round_lowers; round_no_more = round_no_more; steady_growth = makes_grows; guess_over = guess_over; guess_right = guess_right; guess_sound = guess_sound; guess_no_more = guess_no_more; way_sound = way_sound; way_last = way_last; way_ends = way_ends; worked = least_worked; needed = needed }
