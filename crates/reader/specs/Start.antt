-- Storage in which nothing is held yet: its lengths, and heads of chains that are all 0.
use Rattle.std.specs.Prelude.{ℕ, zero, suc, ◌<◌, ◌≡◌, refl, List, [], ◌∷◌, length, get_or, take, drop}
use Rattle.std.proofs.Common.{arith}
use Rattle.nametable.specs.Table.{Table}
use Rattle.symbols.specs.Sections.{Holds}
use Rattle.drafts.specs.declared.Kind.{Kind}
use Rattle.drafts.specs.declared.Kind.TheVariants.{Constant, Compound, Predicate}
use Rattle.drafts.specs.Drafted.{section_of}
use Rattle.building.specs.Built.{shut}
use Rattle.reader.specs.Walking.{blank, Empty}

abbrev pub Zeros : List ℕ → Type 0
Zeros l = (i : ℕ) → get_or l i 0 ≡ 0

pub record Fresh (out opens starts lens heads nexts : List ℕ) : Type 0 where
  pub out_long : length out ≡ 33800
  pub opens_long : length opens ≡ 256
  pub starts_long : length starts ≡ 28160
  pub lens_long : length lens ≡ 28160
  pub heads_long : length heads ≡ 12288
  pub nexts_long : length nexts ≡ 28160
  pub heads_zero : Zeros heads

take-zero : (k : ℕ) (l : List ℕ) → Zeros l → Zeros (take k l)
take-zero zero l h i = refl
take-zero (suc k) [] h i = refl
take-zero (suc k) (x ∷ l) h zero = h 0
take-zero (suc k) (x ∷ l) h (suc i) = take-zero k l (λ j. h (suc j)) i

drop-zero : (a : ℕ) (l : List ℕ) → Zeros l → Zeros (drop a l)
drop-zero zero l h = h
drop-zero (suc a) [] h = h
drop-zero (suc a) (x ∷ l) h = drop-zero a l (λ j. h (suc j))

empty-table : (text starts lens heads nexts : List ℕ) → Zeros heads → Table text starts lens heads nexts [] 0
empty-table text starts lens heads nexts z =
    record {
      entries =
          record {
            count = refl;
            inside = λ i (l : i < 0). absurd (omega arith);
            named = λ i (l : i < 0). absurd (omega arith);
            distinct = λ i j (l : i < j) (m : j < 0) e. omega arith;
          };
      chains = record { begins = λ h l. z h; goes_on = λ i (l : i < 0). absurd (omega arith) };
    }

module _ (text out opens starts lens heads nexts : List ℕ) (f : Fresh out opens starts lens heads nexts) where
  empty_section : (k : Kind) → Holds text starts lens heads nexts (section_of blank k) []
  empty_section Constant =
      record {
        table = empty-table text _ _ _ _ (take-zero 4096 (drop 0 heads) (drop-zero 0 heads f.heads_zero));
        starts_room = omega (arith, f.starts_long);
        lens_room = omega (arith, f.lens_long);
        heads_room = omega (arith, f.heads_long);
        nexts_room = omega (arith, f.nexts_long);
        few = omega arith;
        short = omega (arith, f.starts_long);
      }
  empty_section Compound =
      record {
        table = empty-table text _ _ _ _ (take-zero 4096 (drop 4096 heads) (drop-zero 4096 heads f.heads_zero));
        starts_room = omega (arith, f.starts_long);
        lens_room = omega (arith, f.lens_long);
        heads_room = omega (arith, f.heads_long);
        nexts_room = omega (arith, f.nexts_long);
        few = omega arith;
        short = omega (arith, f.starts_long);
      }
  empty_section Predicate =
      record {
        table = empty-table text _ _ _ _ (take-zero 4096 (drop 8192 heads) (drop-zero 8192 heads f.heads_zero));
        starts_room = omega (arith, f.starts_long);
        lens_room = omega (arith, f.lens_long);
        heads_room = omega (arith, f.heads_long);
        nexts_room = omega (arith, f.nexts_long);
        few = omega arith;
        short = omega (arith, f.starts_long);
      }

  pub fresh-empty : Empty text out opens starts lens heads nexts
  fresh-empty =
      record {
        nothing =
            record {
              built =
                  record {
                    drafted =
                        record {
                          bytes = refl;
                          tables = λ k. empty_section k;
                          constants_few = omega arith;
                          compounds_few = omega arith;
                          predicates_few = omega arith;
                          low = omega arith;
                          long = f.out_long;
                        };
                    opened = shut;
                    opens_long = f.opens_long;
                    weighed = refl;
                  };
              start = 0;
              behind = refl;
              done = refl;
            };
      }
