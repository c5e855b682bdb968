-- The sizes of a loop that goes on from a state: what it began with, what it has now, and how many tokens may still be taken.
use Rattle.std.proofs.Common.{◌≡◌, ℕ, ◌+◌, ◌-◌, ◌<◌, ◌≤◌, arith}

-- a turn adds to the state no more than it takes
pub turned : (first now next start before between after : ℕ) → now - first + before ≤ start → between ≤ before → after < between → next + after ≤ between + now → next - first + after ≤ start
turned first now next start before between after le comma takes turn = omega arith

-- the loop ends with all that the state has, and takes one token more
pub closed : (first now all start before looked between after : ℕ) → now - first + before ≤ start → looked ≤ before → between < looked → all ≡ now → after ≡ between → all + after < start + first
closed first now all start before looked between after le look mark same added = omega arith

-- nothing is in what is empty
pub none_below : (size most : ℕ) → size ≡ 0 → size ≤ most
none_below size most none = omega arith

pub none_before : (size now start : ℕ) → size ≡ 0 → now ≡ start → size + now ≤ start
none_before size now start none same = omega arith
