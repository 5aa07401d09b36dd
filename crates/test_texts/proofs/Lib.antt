mod Lengths
