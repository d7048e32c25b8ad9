-- the messages before the offset are learned
use Rattle.std.proofs.Common.{◌≡◌, ◌-◌, length}
use Rattle.examples.proofs.Learning.{LearnedTo}
use Rattle.examples.proofs.interfaces.learn_all.Given as goal

abbrev pub invariant-loop-message : goal.invariant-loop-message
invariant-loop-message l = record {
  limit : l.messages.limit ≡ l.limit;
  capture : l.messages.capture ≡ l.capture;
  offset : l.messages.offset ≡ l.offset;
  learned : LearnedTo l.limit l.capture l.offset l.fn.interfaces l.interfaces;
}

abbrev pub decreases-loop-message : goal.decreases-loop-message
decreases-loop-message l = length l.capture - l.offset
