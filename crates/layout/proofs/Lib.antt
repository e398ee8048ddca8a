mod Overlaps
