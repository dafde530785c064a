-- Every file says something.
use Rattle.std.proofs.Common.{◌≡◌, ℕ, zero, suc, ◌+◌, ◌<◌, ◌≤◌, List, Option, Some, None, Result, Ok, Err, refl, subst, inl, inr, ◌⊎◌, arith, below_more, add-one}
use Rattle.std.proofs.lemmas.Bool.{cases_order}
use Rattle.vox_chunk.specs.declared.faults.VoxFault.{VoxFault}
use Rattle.vox_chunk.specs.declared.faults.VoxFault.TheVariants.{Truncated}
use Rattle.vox_chunk.specs.Frames.{Bounds, header_of, place_of, FrameFits, end_of}
use Rattle.vox_read.specs.Contents.{Content}
use Rattle.vox_read.specs.Children.{models_before, child_fault}
use Rattle.vox_read.specs.Files.{AreRead, ReadsModels}

-- what the bytes say
record Reading (bytes : List ℕ) : Type 0 where
  says : Result (List Content) VoxFault
  reads : ReadsModels bytes says

at_most : (a b : ℕ) → (a ≤ b) ⊎ (b < a)
at_most a b = pick (cases_order a b) where
  pick : (a ≡ b) ⊎ ((a < b) ⊎ (b < a)) → (a ≤ b) ⊎ (b < a)
  pick (inl same) = inl (omega (arith, same))
  pick (inr (inl less)) = inl (omega (arith, less))
  pick (inr (inr more)) = inr more

fits_or_not : (bytes : List ℕ) (end place : ℕ)
    → FrameFits bytes end place ⊎ (FrameFits bytes end place → ⊥)
fits_or_not bytes end place =
    pick (at_most (place + 12) end) (at_most (end_of bytes place) end) where
      pick : (place + 12 ≤ end) ⊎ (end < place + 12)
          → (end_of bytes place ≤ end) ⊎ (end < end_of bytes place)
          → FrameFits bytes end place ⊎ (FrameFits bytes end place → ⊥)
      pick (inl head) (inl whole) = inl (record { head = head; whole = whole })
      pick (inl head) (inr long) = inr (λ fits. let whole = fits.whole in omega (arith, whole, long))
      pick (inr short) whole = inr (λ fits. let head = fits.head in omega (arith, head, short))

-- one more child is read
one_more : (bytes : List ℕ) (main : Bounds) (i : ℕ) → AreRead bytes main i
    → FrameFits bytes main.end (place_of bytes main.first i) → child_fault bytes main.first i ≡ None
    → AreRead bytes main (suc i)
one_more bytes main i read fits fine =
    record {
      frames = subst
          (λ n. (k : ℕ) → k < n → FrameFits bytes main.end (place_of bytes main.first k))
          (add-one i) (below_more
          (λ k. FrameFits bytes main.end (place_of bytes main.first k)) i read.frames fits);
      fields = subst (λ n. (k : ℕ) → k < n → child_fault bytes main.first k ≡ None) (add-one i)
          (below_more (λ k. child_fault bytes main.first k ≡ None) i read.fields fine);
    }

-- the reading, once child i is read
abbrev Next : List ℕ → Bounds → ℕ → Type 0
Next bytes main i =
    child_fault bytes main.first i ≡ None → FrameFits bytes main.end (place_of bytes main.first i)
    → Reading bytes

-- from child i on, where at most n bytes of children are left
onward : (n : ℕ) (bytes : List ℕ) (main : Bounds) (i : ℕ) → header_of bytes ≡ Ok main
    → AreRead bytes main i → main.end ≤ place_of bytes main.first i + n → Reading bytes
onward zero bytes main i header read left =
    record {
      says = Ok (models_before bytes main.first i);
      reads = record {
        main = main;
        header = header;
        children = i;
        read = read;
        ends = omega
            (arith, left);
        are = refl;
      };
    }
onward (suc n) bytes main i header read left =
    at_end (λ fine fits. onward n bytes main (suc i) header (one_more bytes main i read fits fine)
    (omega (arith, left))) (at_most main.end (place_of bytes main.first i))
  where
    by_fields : Next bytes main i → (fault : Option VoxFault)
        → child_fault bytes main.first i ≡ fault
        → FrameFits bytes main.end (place_of bytes main.first i)
        → place_of bytes main.first i < main.end → Reading bytes
    by_fields next (Some fault) is fits begins =
        record {
          says = Err fault;
          reads = inr
              (record { main = main; header = header; child = i; before = read; begins = begins; breaks = inr (fits, is) });
        }
    by_fields next None is fits begins = next is fits

    by_frame : Next bytes main i
        → FrameFits bytes main.end (place_of bytes main.first i)
        ⊎ (FrameFits bytes main.end (place_of bytes main.first i) → ⊥)
        → place_of bytes main.first i < main.end → Reading bytes
    by_frame next (inl fits) begins = by_fields next
        (child_fault bytes main.first i) refl fits begins
    by_frame next (inr not) begins =
        record {
          says = Err (Truncated (place_of bytes main.first i));
          reads = inr
              (record { main = main; header = header; child = i; before = read; begins = begins; breaks = inl (not, refl) });
        }

    at_end : Next bytes main i
        → (main.end ≤ place_of bytes main.first i) ⊎ (place_of bytes main.first i < main.end)
        → Reading bytes
    at_end next (inl ends) =
        record {
          says = Ok (models_before bytes main.first i);
          reads = record
              { main = main; header = header; children = i; read = read; ends = ends; are = refl };
        }
    at_end next (inr begins) = by_frame next
        (fits_or_not bytes main.end (place_of bytes main.first i)) begins

by_header : (bytes : List ℕ) (header : Result Bounds VoxFault) → header_of bytes ≡ header
    → Reading bytes
by_header bytes (Err fault) is = record { says = Err fault; reads = inl is }
by_header bytes (Ok main) is =
    onward main.end bytes main 0 is
    (record {
      frames = λ k lt. absurd (omega (arith, lt));
      fields = λ k lt. absurd
          (omega (arith, lt));
    }) (omega arith)

pub some_reading : (bytes : List ℕ)
    → (says : Result (List Content) VoxFault) × ReadsModels bytes says
some_reading bytes =
    let reading = by_header bytes (header_of bytes) refl in (reading.says, reading.reads)
